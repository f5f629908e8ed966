-- The nearest whole number by a quotient and its rest: twice the rest is below twice the divisor, so it holds the divisor once where at least a half is left,
-- and else not at all. What that gives is no larger than the dividend.
use Prim.Native.Nat.{ℕ, zero, suc, ◌+◌, ◌*◌, ◌/◌, ◌%◌, ◌≤◌, ◌<◌}
use mathlib.Core.Path.{◌≡◌, refl, ap}
use mathlib.Core.Bool.{Bool, true, false, cond}
use native.Mathlib.Nat.{div-add-mod, mod-lt, div-eq_of_lt, div-eq_of_lt-le, zero-div, le-mul_of_pos_right, mul_comm}
use native.Mathlib.Omega.{arith}
use lib.Dec.{ltb}
use lib.IntN.{ℤ, pos, negsuc, neg_ℤ, nat_abs}
use borrow.Author.Tests.{ltb-true, ltb-false}
use Rattle.arith.specs.Arith.{nearest_up, nearest_away}
use Rattle.arith.proofs.Signs.{signed, sign}

-- ---- on natural numbers

pub half-left : (a d : ℕ) → 0 < d → 2 * (a % d) / d ≡ cond (ltb (2 * (a % d)) d) 0 1
half-left a d D = go (ltb (2 * (a % d)) d) refl
  where
    go : (b : Bool) → ltb (2 * (a % d)) d ≡ b → 2 * (a % d) / d ≡ cond b 0 1
    go true e = div-eq_of_lt (ltb-true (2 * (a % d)) d e)
    go false e = div-eq_of_lt-le d (omega (arith, ltb-false (2 * (a % d)) d e)) (omega (arith, mod-lt a D))

pub by-rest : (a d : ℕ) → 0 < d → a / d + 2 * (a % d) / d ≡ nearest_up a d
unfolding nearest_up
by-rest a d D = ap (λ (k : ℕ). a / d + k) (half-left a d D)

-- what is taken more is no larger than the rest: 0 where none is left, and else at most 1
pub no-larger : (a d : ℕ) → 0 < d → a / d + 2 * (a % d) / d ≤ a
no-larger a d D =
    let whole : a / d ≤ d * (a / d) = omega (arith, le-mul_of_pos_right (a / d) D, mul_comm d (a / d)) in
    omega (arith, div-add-mod a d, least (a % d) refl)
  where
    one : (b : Bool) → cond b 0 1 ≤ 1
    one true = omega arith
    one false = omega arith

    least : (r : ℕ) → a % d ≡ r → 2 * (a % d) / d ≤ a % d
    least zero e = rw e (rw (zero-div d) (omega arith))
    least (suc r) e = omega (arith, half-left a d D, one (ltb (2 * (a % d)) d))

-- ---- with a sign, as the machine divides

pub nearest-signed : (z : ℤ) (d : ℕ) → 0 < d → signed (sign z) (nat_abs z / d + 2 * (nat_abs z % d) / d) ≡ nearest_away z d
unfolding nearest_away
nearest-signed z zero D = let x : ⊥ = omega arith in absurd x
nearest-signed (pos n) (suc d) D = ap pos (by-rest n (suc d) D)
nearest-signed (negsuc n) (suc d) D = ap (λ (k : ℕ). neg_ℤ (pos k)) (by-rest (suc n) (suc d) D)
