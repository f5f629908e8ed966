-- How large a sum, a product, a shift or a clamp can be. Each bound is one of ℕ, on `nat_abs`, so that `omega` goes on from it.
use Prim.Native.Nat.{ℕ, suc, ◌+◌, ◌-◌, ◌*◌, ◌/◌, ◌^◌, ◌≤◌, ◌<◌}
use mathlib.Core.Path.{◌≡◌, refl}
use mathlib.Core.Bool.{Bool, true, false, not, cond}
use native.Mathlib.Nat.{mul-le-mul}
use Rattle.std.proofs.lemmas.Int.{ints}
use native.Mathlib.Omega.{arith}
use lib.Dec.{T, ltb, ltb→lt, nltb→le}
use lib.Pow.{shr_mono}
use lib.IntN.{ℤ, pos, negsuc, neg_ℤ, nat_abs, sub_ℕ, ◌+ℤ◌, ◌-ℤ◌, ◌*ℤ◌}
use lib.Signed.{mag, shr_z}
use Rattle.arith.specs.Arith.{clamp_z}

-- a choice has what both of its sides have
pub by_cond {ℓ} : {A : Type ℓ} (Q : A → Type 0) (c : Bool) (x y : A) → (T c → Q x) → (T (not c) → Q y) → Q (cond c x y)
by_cond Q true x y f g = f tt
by_cond Q false x y f g = g tt

-- a difference of two naturals is below zero or not
pub by-sub : (Q : ℤ → Type 0) (a b : ℕ) → (a < b → Q (negsuc (b - suc a))) → (b ≤ a → Q (pos (a - b))) → Q (sub_ℕ a b)
by-sub Q a b f g = by_cond Q (ltb a b) (negsuc (b - suc a)) (pos (a - b)) (λ t. f (ltb→lt a b t)) (λ t. g (nltb→le a b t))

-- ---- the two measures of a number: `mag` counts -n as n - 1, which is how a width's range is stated

pub mag-abs : (z : ℤ) → mag z ≤ nat_abs z
mag-abs z = grind (arith, ints)

-- ---- sums and products

pub abs_neg : (z : ℤ) → nat_abs (neg_ℤ z) ≡ nat_abs z
abs_neg z = grind (arith, ints)

pub abs-add : (a b : ℤ) → nat_abs (a +ℤ b) ≤ nat_abs a + nat_abs b
abs-add a b = grind (arith, ints)

pub abs-minus : (a b : ℤ) → nat_abs (a -ℤ b) ≤ nat_abs a + nat_abs b
abs-minus a b = grind (arith, ints)

pub abs-mul : (a b : ℤ) → nat_abs (a *ℤ b) ≡ nat_abs a * nat_abs b
abs-mul (pos a) (pos b) = refl
abs-mul (pos a) (negsuc b) = abs_neg (pos (a * suc b))
abs-mul (negsuc a) (pos b) = abs_neg (pos (suc a * b))
abs-mul (negsuc a) (negsuc b) = refl

pub abs-mul-le : (a b : ℤ) (A B : ℕ) → nat_abs a ≤ A → nat_abs b ≤ B → nat_abs (a *ℤ b) ≤ A * B
abs-mul-le a b A B p q = rw (abs-mul a b) (mul-le-mul p q)

-- ---- shifts right

pub abs-shr : (z : ℤ) (m : ℕ) → nat_abs (shr_z z m) ≤ nat_abs z
abs-shr z m = grind (arith, ints)

-- by k places: a number below zero may end one further from zero than its magnitude, divided, says
pub abs-shr-pow : (z : ℤ) (k : ℕ) → nat_abs (shr_z z (2 ^ k)) ≤ nat_abs z / 2 ^ k + 1
abs-shr-pow (pos a) k = omega arith
abs-shr-pow (negsuc a) k = omega (arith, shr_mono {a = a} {b = suc a} k (omega arith))

-- ---- clamps, by either measure

pub clamp-abs : (v lo hi : ℤ) (B : ℕ) → nat_abs lo ≤ B → nat_abs hi ≤ B → nat_abs (clamp_z v lo hi) ≤ B
unfolding clamp_z
clamp-abs v lo hi B h h1 = grind (arith, ints)

pub clamp-mag : (v lo hi : ℤ) (B : ℕ) → mag lo ≤ B → mag hi ≤ B → mag (clamp_z v lo hi) ≤ B
unfolding clamp_z
clamp-mag v lo hi B h h1 = grind (arith, ints)
