-- The 18 fields of a sheet, as a state holds them: zeros where there is no sheet, and when two sheets are the same. Banks are no part of them.
-- (RULES 3.1, 4.1)
use Rattle.std.specs.Prelude.{Bool, not, ◌&&◌, ◌||◌, eqb, ℤ, pos}
use Rattle.std.specs.Int.Signed.{lt_z}
use Rattle.params.specs.declared.Params.{Params}

-- No sheet: 0 in every field.
abbrev pub no_fields : Params
no_fields = record {
  taps = 0;
  nco_step = pos 0;
  period_nominal = 0;
  period_min = 0;
  period_max = 0;
  ted_shift = 0;
  kp = pos 0;
  kp_shift = 0;
  ki = pos 0;
  ki_shift = 0;
  integrator_max = pos 0;
  agc_init = 0;
  agc_target = 0;
  agc_shift = 0;
  bits = 0;
  q_shift = 0;
  block_log2 = 0;
  delay = 0;
}

-- Two signed numbers are the same: neither lies below the other.
abbrev pub same_z : ℤ → ℤ → Bool
same_z a b = not (lt_z b a || lt_z a b)

-- Two sheets are the same: in each of the 18 fields.
unfoldable pub same_fields : Params → Params → Bool
same_fields p q =
    eqb p.taps q.taps && same_z p.nco_step q.nco_step && eqb p.period_nominal q.period_nominal
    && eqb p.period_min q.period_min && eqb p.period_max q.period_max && eqb p.ted_shift q.ted_shift
    && same_z p.kp q.kp && eqb p.kp_shift q.kp_shift && same_z p.ki q.ki && eqb p.ki_shift q.ki_shift
    && same_z p.integrator_max q.integrator_max && eqb p.agc_init q.agc_init && eqb p.agc_target q.agc_target
    && eqb p.agc_shift q.agc_shift && eqb p.bits q.bits && eqb p.q_shift q.q_shift
    && eqb p.block_log2 q.block_log2 && eqb p.delay q.delay
