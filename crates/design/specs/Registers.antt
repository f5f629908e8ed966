-- The registers of a design: its steps (crates/steps), the constants, and what passes through.
-- (RULES 6.3)
use Rattle.std.specs.Prelude.{Float}
use Rattle.std.specs.Float.{binary64}
use Rattle.std.specs.Float.Ieee.{div}
use Rattle.steps.specs.Steps.{period_nominal, period_min, period_max, integrator_max, nco_step, agc_target}
use Rattle.design.specs.declared.Design.{Design}
use Rattle.design.specs.declared.DesignRegisters.{DesignRegisters}

-- Samples in a symbol.
unfoldable pub sps_of : Design → Float
sps_of d = div binary64 d.sample_rate d.symbol_rate

-- All registers at so many samples in a symbol. The delay is 24 symbols in every design.
unfoldable pub registers_of : Design → Float → DesignRegisters
registers_of d sps = record {
  taps = d.taps;
  nco_step = nco_step d.carrier_offset d.sample_rate;
  period_nominal = period_nominal sps;
  period_min = period_min sps;
  period_max = period_max sps;
  ted_shift = 8;
  integrator_max = integrator_max sps;
  agc_init = 262144;
  agc_target = agc_target d.agc_rms;
  agc_shift = 4;
  bits = d.bits;
  block_log2 = d.block_log2;
  delay = 24;
}
