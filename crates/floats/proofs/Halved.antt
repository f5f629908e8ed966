-- Rounding by doubling: below 2^62 in size twice a float is exact and in the range of a cast, and half of its whole part, taken away from zero, is the nearest
-- whole number. From 2^62 on a float has no fraction, so that to round it leaves it as it is.
use Rattle.std.proofs.Common.{◌≡◌, ℕ, suc, ◌+◌, ◌-◌, ◌*◌, ◌/◌, ◌%◌, ◌^◌, ◌<◌, ◌≤◌, min, Bool, true, false, cond, ◌||◌, T, ltb, ℤ, pos, negsuc, neg_ℤ, sym, refl, ap, ◌∙◌, le_of_eq, lt_of_lt_of_le, lt_of_le_of_lt, mul-le-mul_right, div-lt_iff_lt-mul, lt_of_mul-lt-mul_right, mul-lt-mul_of_pos_right, mul-pos, one-mul, mul-one, div-one, mul_left_comm, mul_right_comm, arith, lit≤, ltb-true, ltb-false, lt→ltb, pow_pos}
use native.Mathlib.Nat.{div-add-mod, mul-add-div}
use Rattle.std.proofs.lemmas.Int.{ints}
use lib.Ieee.{Float, nan, inf, fin, binary64, emax, up, down, add, lt, eq, le, fits, to_signed}
use lib.Ieee.Fits.{down_pos}
use lib.Ieee.Exact.{HasValue}
use lib.Ieee.Nearest.{div_same}
use Rattle.arith.specs.Arith.{nearest_up}
use Rattle.arith.proofs.Signs.{signed}
use Rattle.arith.proofs.Nearest.{half-left}
use Rattle.floats.specs.Whole.{round_away}
use Rattle.floats.proofs.Doubled.{few-digits, double}
use Rattle.floats.proofs.Rounded.{whole}

-- ---- on natural numbers

-- twice a / d is twice its whole part, and one more where at least a half is left
halves : (a d : ℕ) → 0 < d → 2 * a / d ≡ 2 * (a / d) + cond (ltb (2 * (a % d)) d) 0 1
halves a d D =
    let parts : 2 * a ≡ d * (2 * (a / d)) + 2 * (a % d) = omega (arith, div-add-mod a d, mul_left_comm d 2 (a / d)) in
    ap (λ (n : ℕ). n / d) parts ∙ mul-add-div D (2 * (a / d)) (2 * (a % d)) ∙ ap (λ (k : ℕ). 2 * (a / d) + k) (half-left a d D)

half_up : (q : ℕ) (b : Bool) → (2 * q + cond b 0 1) / 2 + (2 * q + cond b 0 1) % 2 ≡ q + cond b 0 1
half_up q true = omega arith
half_up q false = omega arith

by-halves : (a d : ℕ) → 0 < d → 2 * a / d / 2 + 2 * a / d % 2 ≡ nearest_up a d
unfolding nearest_up
by-halves a d D = ap (λ (n : ℕ). n / 2 + n % 2) (halves a d D) ∙ half_up (a / d) (ltb (2 * (a % d)) d)

-- ---- the ends -2^h and 2^h: what a float's tests against them say of its size m × 2^e

abbrev top : ℕ → Float
top h = fin false 1 (pos h)

abbrev bottom : ℕ → Float
bottom h = fin true 1 (pos h)

less : (h m : ℕ) (e : ℤ) → ltb (m * up e * 1) (1 * 2 ^ h * down e) ≡ true → m * up e < 2 ^ h * down e
less h m e t = simp (mul-one, one-mul) at (ltb-true (m * up e * 1) (1 * 2 ^ h * down e) t)

is-less : (h m : ℕ) (e : ℤ) → m * up e < 2 ^ h * down e → T (ltb (m * up e * 1) (1 * 2 ^ h * down e))
is-less h m e l = lt→ltb (m * up e * 1) (1 * 2 ^ h * down e) (simp (mul-one, one-mul) l)

at_least : (h m : ℕ) (e : ℤ) → ltb (m * up e * 1) (1 * 2 ^ h * down e) ≡ false → 2 ^ h * down e ≤ m * up e
at_least h m e t = simp (mul-one, one-mul) at (ltb-false (m * up e * 1) (1 * 2 ^ h * down e) t)

-- a number below zero is below 2^h, and one above is above -2^h
apart : (h m : ℕ) (e : ℤ) → (0 < m * up e * 1 + 1 * 2 ^ h * down e) × (0 < 1 * 2 ^ h * down e + m * up e * 1)
apart h m e = let some : 0 < 2 ^ h * down e = mul-pos (pow_pos h) (down_pos e) in simp (mul-one, one-mul) (omega arith, omega arith)

inside : (h : ℕ) (s : Bool) (m : ℕ) (e : ℤ) → lt (bottom h) (fin s m e) ≡ true → lt (fin s m e) (top h) ≡ true → m * up e < 2 ^ h * down e
unfolding lt
inside h true m e l u = less h m e l
inside h false m e l u = less h m e u

below-bottom : (h : ℕ) (s : Bool) (m : ℕ) (e : ℤ) → lt (bottom h) (fin s m e) ≡ false → 2 ^ h * down e ≤ m * up e
unfolding lt
below-bottom h true m e t = at_least h m e t
below-bottom h false m e t = absurd (omega (arith, ltb-false 0 (1 * 2 ^ h * down e + m * up e * 1) t, apart h m e))

above-top : (h : ℕ) (s : Bool) (m : ℕ) (e : ℤ) → lt (fin s m e) (top h) ≡ false → 2 ^ h * down e ≤ m * up e
unfolding lt
above-top h true m e t = absurd (omega (arith, ltb-false 0 (m * up e * 1 + 1 * 2 ^ h * down e) t, apart h m e))
above-top h false m e t = at_least h m e t

-- ---- a float whose size is a / d, below 2^h: it is between the ends, and its cast is the whole part with its sign

pub record Within (h : ℕ) (z : Float) (s : Bool) (q : ℕ) : Type 0 where
  pub low : T (le (bottom h) z)
  pub high : T (lt z (top h))
  pub cut : to_signed h z ≡ signed s q

lt-le : (x y : Float) → T (lt x y) → T (le x y)
unfolding le
lt-le x y t = go (lt x y) (eq x y) t
  where
    go : (a b : Bool) → T a → T (a || b)
    go true b t = tt
    go false b t = elim t [ ]

-- its own size, from the one it is equal to
own : (h n : ℕ) (g : ℤ) (a d : ℕ) → 0 < d → n * up g * d ≡ a * down g → a < 2 ^ h * d → n * up g < 2 ^ h * down g
own h n g a d D v l =
    lt_of_mul-lt-mul_right d
    (lt_of_le_of_lt (le_of_eq v) (lt_of_lt_of_le (mul-lt-mul_of_pos_right l (down_pos g)) (le_of_eq (mul_right_comm (2 ^ h) d (down g)))))

-- the cast does not reach the ends
free : (s : Bool) (p c : ℕ) → p < c → cond s (neg_ℤ (pos (min p c))) (pos (min p (c - 1))) ≡ signed s p
free s p c l = grind (arith, ints)

fin-within : (h : ℕ) (s : Bool) (n : ℕ) (g : ℤ) → n * up g < 2 ^ h * down g → Within h (fin s n g) s (n * up g / down g)
unfolding lt to_signed
fin-within h true n g l = record {
  low = lt-le (bottom h) (fin true n g) (is-less h n g l);
  high = lt→ltb 0 _ (apart h n g).0;
  cut = free true _ (2 ^ h) ((div-lt_iff_lt-mul (down_pos g)).1 l);
}
fin-within h false n g l = record {
  low = lt-le (bottom h) (fin false n g) (lt→ltb 0 _ (apart h n g).1);
  high = is-less h n g l;
  cut = free false _ (2 ^ h) ((div-lt_iff_lt-mul (down_pos g)).1 l);
}

within : (h : ℕ) (z : Float) (s : Bool) (a d : ℕ) → 0 < d → HasValue z s a d → a < 2 ^ h * d → Within h z s (a / d)
within h nan s a d D v l = absurd v
within h (inf t) s a d D v l = absurd v
within h (fin t n g) s a d D v l = rw (← v.0, ← div_same (n * up g) (down g) a d (down_pos g) D v.1) (fin-within h t n g (own h n g a d D v.1 l))

-- ---- between -2^62 and 2^62

pub record Halved (x : Float) : Type 0 where
  pub sign : Bool
  pub twice : ℕ
  pub small : twice < 2 ^ 63
  pub doubled : Within 63 (add binary64 x x) sign twice
  pub nearest : signed sign (twice / 2 + twice % 2) ≡ to_signed 63 (round_away x)

cast-whole : (s : Bool) (n : ℕ) → n < 2 ^ 63 → signed s n ≡ to_signed 63 (fin s n (pos 0))
unfolding to_signed
cast-whole s n l = rw (mul-one n, div-one n) (sym (free s n (2 ^ 63) l))

pub halved_of : (x : Float) → T (fits binary64 x) → lt (bottom 62) x ≡ true → lt x (top 62) ≡ true → Halved x
unfolding round_away lt
halved_of nan f l u = cc
halved_of (inf true) f l u = cc
halved_of (inf false) f l u = cc
halved_of (fin s m e) f l u =
    let a = m * up e in
    let d = down e in
    let under : a < 2 ^ 62 * d = inside 62 s m e l u in
    let w : 2 * a < 2 ^ 63 * d = omega arith in
    let q = 2 * a / d in
    let small : q < 2 ^ 63 = (div-lt_iff_lt-mul (down_pos e)).1 w in
    let fine : 2 * a < 2 ^ suc (emax binary64) * d = lt_of_lt_of_le w (mul-le-mul_right d (lit≤ tt)) in
    record {
      sign = s;
      twice = q;
      small = small;
      doubled = within 63 (add binary64 (fin s m e) (fin s m e)) s (2 * a) d (down_pos e) (double binary64 s m e f fine) w;
      nearest = cast-whole s (q / 2 + q % 2) (omega arith) ∙ ap (λ (n : ℕ). to_signed 63 (fin s n (pos 0))) (by-halves a d (down_pos e));
    }

-- ---- floats of 2^62 and more in size, a NaN and the infinities

whole-down : (m : ℕ) (e : ℤ) → m < 2 ^ 53 → 2 ^ 62 * down e ≤ m * up e → down e ≡ 1
whole-down m (pos k) l h = refl
whole-down m (negsuc k) l h = absurd (omega (arith, l, h, down_pos (negsuc k)))

large : (s : Bool) (m : ℕ) (e : ℤ) → T (fits binary64 (fin s m e)) → 2 ^ 62 * down e ≤ m * up e
    → to_signed 63 (fin s m e) ≡ to_signed 63 (round_away (fin s m e))
unfolding round_away to_signed
large s m e f h = rw (whole-down m e (few-digits binary64 s m e f) h) (rw (whole (m * up e), mul-one (m * up e)) refl)

pub stays-above : (x : Float) → T (fits binary64 x) → lt x (top 62) ≡ false → to_signed 63 x ≡ to_signed 63 (round_away x)
unfolding round_away
stays-above nan f t = refl
stays-above (inf s) f t = refl
stays-above (fin s m e) f t = large s m e f (above-top 62 s m e t)

pub stays-below : (x : Float) → T (fits binary64 x) → lt (bottom 62) x ≡ false → to_signed 63 x ≡ to_signed 63 (round_away x)
unfolding round_away
stays-below nan f t = refl
stays-below (inf s) f t = refl
stays-below (fin s m e) f t = large s m e f (below-bottom 62 s m e t)
