-- A design of two samples in a symbol, and its registers but for four of them, for the case that makes registers.
-- (RULES 9, P9)
use Rattle.std.specs.Prelude.{ℕ, false, pos, negsuc}
use Rattle.std.specs.Float.{fin}
use Rattle.design.specs.declared.Design.{Design}
use Rattle.design.specs.declared.DesignRegisters.{DesignRegisters}

-- The rates are 2 and 1, the carrier's offset and the trim 0, and the level a quarter of full scale.
unfoldable pub two_samples : Design
two_samples = record {
  sample_rate = fin false 1 (pos 1);
  symbol_rate = fin false 1 (pos 0);
  carrier_offset = fin false 0 (pos 0);
  trim = fin false 0 (pos 0);
  agc_rms = fin false 1 (negsuc 1);
  taps = 4;
  bits = 8;
  block_log2 = 12;
}

-- Its registers, with these three periods and this end of the integrator. The delay is 24, as in every design.
unfoldable pub registers_with : ℕ → ℕ → ℕ → ℕ → DesignRegisters
registers_with nominal least most integrator = record {
  taps = 4;
  nco_step = pos 0;
  period_nominal = nominal;
  period_min = least;
  period_max = most;
  ted_shift = 8;
  integrator_max = pos integrator;
  agc_init = 262144;
  agc_target = 16384;
  agc_shift = 4;
  bits = 8;
  block_log2 = 12;
  delay = 24;
}
