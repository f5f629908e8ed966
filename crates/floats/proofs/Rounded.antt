-- The library rounds a float to a float, and the rule names the whole number: a cast makes the same of both. A float with a fraction is below 2^53, so that the
-- whole number nearest to it is a float, and a larger one is whole already.
use Rattle.std.proofs.Common.{◌≡◌, ℕ, zero, suc, ◌+◌, ◌*◌, ◌/◌, ◌%◌, ◌^◌, ◌<◌, Bool, true, false, ◌&&◌, cond, T, eqb, ltb, leb, ℤ, pos, negsuc, sym, refl, ap, ◌∙◌, subst, arith, ltb-true, ltb-false, ltb→lt, pow_pos}
use native.Mathlib.Nat.{mul-one, zero-mul, mul_assoc, add_comm, mul-pos, div-add-mod, mul-add-div, mod-lt, div-eq_of_lt, div-eq_of_lt-le}
use lib.Pow.{pow-add, shl_lt}
use lib.Ieee.{Float, nan, inf, fin, Format, binary64, prec, emax, low, up, down, round, fits, to_unsigned}
use lib.Ieee.Fits.{down_pos, and_r}
use lib.Ieee.Exact.{HasValue, round_exact}
use lib.Ieee.Back.{round_whole}
use lib.Ieee.Nearest.{div_same}
use Rattle.std.specs.Float.{round_with, float_round, ratio_round_half_up}
use Rattle.arith.specs.Arith.{nearest_up}
use Rattle.arith.proofs.Nearest.{by-rest, no-larger}
use Rattle.floats.specs.Whole.{round_away}
use Rattle.floats.proofs.Doubled.{few-digits}

-- ---- what the format says of a float m × 2^e, beside that m has few digits: it is in the range

in_range : (f : Format) (s : Bool) (m : ℕ) (e : ℤ) → T (fits f (fin s m e)) → m * up e < 2 ^ suc (emax f) * down e
unfolding fits
in_range f s zero e t = simp zero-mul (mul-pos (pow_pos (suc (emax f))) (down_pos e))
in_range f s (suc m) e t =
    let a = eqb (suc m % 2) 1 in
    let b = ltb (suc m) (2 ^ prec f) in
    let c = leb (down e) (2 ^ low f) in
    ltb→lt (suc m * up e) (2 ^ suc (emax f) * down e) (and_r (a && b && c) (ltb (suc m * up e) (2 ^ suc (emax f) * down e)) t)

-- ---- the nearest whole number, as the library and as the rule say it

half_up : (r d : ℕ) → r < d → (2 * r + d) / (2 * d) ≡ cond (ltb (2 * r) d) 0 1
half_up r d h = go (ltb (2 * r) d) refl
  where
    go : (b : Bool) → ltb (2 * r) d ≡ b → (2 * r + d) / (2 * d) ≡ cond b 0 1
    go true e = div-eq_of_lt (omega (arith, ltb-true (2 * r) d e))
    go false e = div-eq_of_lt-le (2 * d) (omega (arith, ltb-false (2 * r) d e)) (omega arith)

same_nearest : (a d : ℕ) → 0 < d → ratio_round_half_up a d ≡ nearest_up a d
unfolding nearest_up
same_nearest a d D =
    let two : 0 < 2 * d = omega arith in
    let parts : 2 * a + d ≡ 2 * d * (a / d) + (2 * (a % d) + d) = omega (arith, div-add-mod a d, mul_assoc 2 d (a / d)) in
    ap (λ (n : ℕ). n / (2 * d)) parts ∙ mul-add-div two (a / d) (2 * (a % d) + d) ∙ ap (λ (k : ℕ). a / d + k) (half_up (a % d) d (mod-lt a D))

pub whole : (a : ℕ) → nearest_up a 1 ≡ a
unfolding nearest_up
whole a = grind arith

-- ---- it is a float

exact_whole : (f : Format) (s : Bool) (m k : ℕ) → T (fits f (fin s m (pos k))) → HasValue (round f s (m * 2 ^ k) 1) s (m * 2 ^ k) 1
exact_whole f s m k t =
    let is : m * 2 ^ k * 2 ^ low f ≡ m * 2 ^ (k + low f) = mul_assoc m (2 ^ k) (2 ^ low f) ∙ ap (λ (n : ℕ). m * n) (sym (pow-add 2 k (low f))) in
    let fine : m * 2 ^ k * 2 ^ low f < 2 ^ (suc (emax f) + low f) = shl_lt (suc (emax f)) (low f) (omega (arith, in_range f s m (pos k) t)) in
    round_exact f s (m * 2 ^ k) 1 m (k + low f) (omega arith) (few-digits f s m (pos k) t)
    (rw (add_comm (low f) (suc (emax f))) (subst (λ (n : ℕ). n < 2 ^ (suc (emax f) + low f)) is fine)) (is ∙ sym (mul-one (m * 2 ^ (k + low f))))

exact : (f : Format) (s : Bool) (m : ℕ) (e : ℤ) → T (fits f (fin s m e)) → let n = nearest_up (m * up e) (down e) in HasValue (round f s n 1) s n 1
exact f s m (pos k) t = rw (whole (m * 2 ^ k)) (exact_whole f s m k t)
exact f s m (negsuc k) t =
    let n = nearest_up (m * 1) (2 ^ suc k) in
    round_whole f s n (omega (arith, few-digits f s m (negsuc k) t, by-rest (m * 1) (2 ^ suc k) (pow_pos (suc k)), no-larger (m * 1) (2 ^ suc k) (pow_pos (suc k))))

-- ---- so a cast reads the same number

same_size : (m n : ℕ) (e : ℤ) → m * up e * 1 ≡ n * down e → m * up e / down e ≡ n * 1 / 1
same_size m n e v = div_same (m * up e) (down e) (n * 1) 1 (down_pos e) (omega arith) (v ∙ ap (λ (k : ℕ). k * down e) (sym (mul-one n)))

same_unsigned : (w : ℕ) (x : Float) (s : Bool) (n : ℕ) → HasValue x s n 1 → to_unsigned w x ≡ to_unsigned w (fin s n (pos 0))
unfolding to_unsigned
same_unsigned h nan s n v = absurd v
same_unsigned h (inf t) s n v = absurd v
same_unsigned h (fin t m e) s n v = rw (v.0, same_size m n e v.1) refl

pub rounded_unsigned : (w : ℕ) (x : Float) → T (fits binary64 x) → to_unsigned w (float_round binary64 x) ≡ to_unsigned w (round_away x)
unfolding round_with round_away
rounded_unsigned w nan t = refl
rounded_unsigned w (inf s) t = refl
rounded_unsigned w (fin true m e) t = rw (same_nearest (m * up e) (down e) (down_pos e)) (same_unsigned w _ true _ (exact binary64 true m e t))
rounded_unsigned w (fin false m e) t = rw (same_nearest (m * up e) (down e) (down_pos e)) (same_unsigned w _ false _ (exact binary64 false m e t))
