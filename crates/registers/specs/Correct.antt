-- How the errors of one symbol move the registers: the integrator, and by it the period, and the gain accumulator.
-- (RULES 3.6)
use Rattle.std.specs.Prelude.{ℕ, ◌^◌, ℤ, pos, neg_ℤ, nat_abs, ◌+ℤ◌, ◌*ℤ◌}
use Rattle.std.specs.Int.Signed.{shr_z}
use Rattle.arith.specs.Arith.{round_shift, clamp_z}
use Rattle.params.specs.declared.Params.{Params}
use Rattle.registers.specs.declared.Pending.{Pending}
use Rattle.registers.specs.declared.Registers.{Registers}

-- A number held between two that are not below zero, as one that is not below zero.
abbrev pub clamp_n : ℤ → ℕ → ℕ → ℕ
clamp_n z lo hi = nat_abs (clamp_z z (pos lo) (pos hi))

-- The furthest that the integrator goes to either side.
abbrev pub integrator_end : Params → ℤ
integrator_end p = p.integrator_max *ℤ pos 65536

-- The integrator, moved by the timing error times the integral gain.
unfoldable pub next_v : Params → ℤ → ℤ → ℤ
next_v p v e = clamp_z (v +ℤ round_shift (p.ki *ℤ e) p.ki_shift) (neg_ℤ (integrator_end p)) (integrator_end p)

-- The period: the nominal one, the integrator as it now is, and the timing error times the proportional gain.
unfoldable pub next_period : Params → ℤ → ℤ → ℕ
next_period p v e =
    clamp_n (pos p.period_nominal +ℤ shr_z v 65536 +ℤ round_shift (p.kp *ℤ e) p.kp_shift) p.period_min p.period_max

-- The gain accumulator, moved by the gain error.
unfoldable pub next_gain : Params → ℕ → ℤ → ℕ
next_gain p acc err = clamp_n (pos acc +ℤ shr_z err (2 ^ p.agc_shift)) 0 16777215

-- The registers with one symbol's errors applied; the period goes by the integrator's new value.
unfoldable pub corrected : Params → Registers → Pending → Registers
corrected p r w =
    let v : ℤ = next_v p r.v w.e in
    record { nco = r.nco; t_acc = r.t_acc; v = v; period = next_period p v w.e; gain_acc = next_gain p r.gain_acc w.err; symbols = r.symbols }
