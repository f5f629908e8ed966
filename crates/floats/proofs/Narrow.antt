-- A cast to a narrow signed type is the cast to a wide one, clamped to the ends of the narrow: both go to the nearer end from outside, and the narrow ends
-- lie within the wide ones.
use Rattle.std.proofs.Common.{◌≡◌, ℕ, ◌-◌, ◌*◌, ◌/◌, ◌^◌, ◌<◌, ◌≤◌, min, true, false, ℤ, pos, negsuc, neg_ℤ, arith, pow_pos, pow_mono}
use lib.Ieee.{Float, nan, inf, fin, up, down, to_signed}
use Rattle.std.specs.Int.{int_max, int_min}
use Rattle.std.proofs.lemmas.Int.{ints, clamps}

abbrev pub clamped : ℕ → ℤ → ℤ
clamped a v = int_max (negsuc (a - 1)) (int_min v (pos (a - 1)))

-- ---- sizes: p of at most b, clamped to a numbers on each side of zero

below : (a b p : ℕ) → 0 < a → a ≤ b → clamped a (neg_ℤ (pos (min p b))) ≡ neg_ℤ (pos (min p a))
below a b p h l = grind (arith, ints, clamps)

above : (a b p : ℕ) → 0 < a → a ≤ b → clamped a (pos (min p (b - 1))) ≡ pos (min p (a - 1))
above a b p h l = grind (arith, ints, clamps)

none : (a : ℕ) → 0 < a → clamped a (pos 0) ≡ pos 0
none a h = grind (arith, ints, clamps)

lowest : (a b : ℕ) → 0 < a → a ≤ b → clamped a (neg_ℤ (pos b)) ≡ neg_ℤ (pos a)
lowest a b h l = grind (arith, ints, clamps)

highest : (a b : ℕ) → 0 < a → a ≤ b → clamped a (pos (b - 1)) ≡ pos (a - 1)
highest a b h l = grind (arith, ints, clamps)

-- ---- floats, to h bits by way of k

pub signed_narrow : (h k : ℕ) → h ≤ k → (x : Float) → clamped (2 ^ h) (to_signed k x) ≡ to_signed h x
unfolding to_signed
signed_narrow h k l nan = none (2 ^ h) (pow_pos h)
signed_narrow h k l (inf true) = lowest (2 ^ h) (2 ^ k) (pow_pos h) (pow_mono l)
signed_narrow h k l (inf false) = highest (2 ^ h) (2 ^ k) (pow_pos h) (pow_mono l)
signed_narrow h k l (fin true m e) = below (2 ^ h) (2 ^ k) (m * up e / down e) (pow_pos h) (pow_mono l)
signed_narrow h k l (fin false m e) = above (2 ^ h) (2 ^ k) (m * up e / down e) (pow_pos h) (pow_mono l)
