-- The sizes that the loop computes with: a gain times an error, and the integrator's ends.
-- A product of numbers of 16 and 32 bits, or of 32 bits and 2^16, is far from the ends of 64 bits.
use Prim.Native.Nat.{ℕ, ◌^◌, ◌≤◌}
use native.Mathlib.Nat.{le_refl}
use native.Mathlib.Omega.{arith}
use lib.IntN.{ℤ, pos, neg_ℤ, nat_abs, ◌*ℤ◌}
use mir.Syntax.{w16, w32, w64}
use mir.Val.{SFits}
use Rattle.arith.specs.Arith.{round_shift}
use Rattle.arith.proofs.Magnitude.{abs_neg, abs-mul-le}
use Rattle.arith.proofs.Bits.{sfit, fit-abs}
use Rattle.arith.proofs.Rounding.{round-abs}

-- ---- a gain of 16 bits times an error of 32, and that rounded

pub gained-abs : {k e : ℤ} → SFits w16 k → SFits w32 e → nat_abs (k *ℤ e) ≤ 2 ^ 46
gained-abs {k} {e} f g = abs-mul-le k e (2 ^ 15) (2 ^ 31) (fit-abs f) (fit-abs g)

pub scaled-abs : {k e : ℤ} (s : ℕ) → SFits w16 k → SFits w32 e → nat_abs (round_shift (k *ℤ e) s) ≤ 2 ^ 46
scaled-abs {k} {e} s f g = omega (arith, round-abs (k *ℤ e) s, gained-abs f g)

-- ---- a number of 32 bits times 2^16, as the integrator's ends are

pub end-abs : {m : ℤ} → SFits w32 m → nat_abs (m *ℤ pos 65536) ≤ 2 ^ 47
end-abs {m} f = abs-mul-le m (pos 65536) (2 ^ 31) 65536 (fit-abs f) (le_refl 65536)

pub end_fits : {m : ℤ} → SFits w32 m → SFits w64 (m *ℤ pos 65536)
end_fits {m} f = sfit {z = m *ℤ pos 65536} (omega (arith, end-abs f))

pub low_fits : {m : ℤ} → SFits w32 m → SFits w64 (neg_ℤ (m *ℤ pos 65536))
low_fits {m} f = sfit {z = neg_ℤ (m *ℤ pos 65536)} (omega (arith, end-abs f, abs_neg (m *ℤ pos 65536)))
