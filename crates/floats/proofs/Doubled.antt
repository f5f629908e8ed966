-- A float added to itself: twice its value exactly, where that is in the format's range. Doubling moves the exponent alone, so no digit is lost.
use Rattle.std.proofs.Common.{◌≡◌, ℕ, zero, suc, ◌+◌, ◌-◌, ◌*◌, ◌%◌, ◌^◌, ◌<◌, ◌≤◌, Bool, true, false, ◌&&◌, T, eqb, ltb, leb, ℤ, pos, negsuc, sym, refl, ap, ◌∙◌, subst, le_trans, le_of_eq, lt_of_lt_of_le, lt_of_le_of_lt, mul_assoc, mul_comm, lt_of_mul-lt-mul_right, mul-lt-mul_of_pos_right, mul-pos, lt_of_not-le, mul-one, not-le_of_lt, le-mul_of_pos_right, mul_left_comm, two-mul, arith, eqb→eq, ltb→lt, leb→le, pow_pos, pow-add}
use native.Mathlib.Nat.{pow-succ'}
use native.Mathlib.Nat.{eq_of_mul-eq-mul_right}
use lib.Pow.{pow-lt}
use lib.Ieee.{Float, nan, inf, fin, Format, prec, emax, low, up, down, round, sum, add, fits}
use lib.Ieee.Fits.{up_pos, down_pos, and_l, and_r}
use lib.Ieee.Exact.{HasValue, round_exact}

-- ---- what the format says of a float m × 2^e: m has few digits, and e is not too small

pub few-digits : (f : Format) (s : Bool) (m : ℕ) (e : ℤ) → T (fits f (fin s m e)) → m < 2 ^ prec f
unfolding fits
few-digits f s zero e t = pow_pos (prec f)
few-digits f s (suc m) e t =
    let a = eqb (suc m % 2) 1 in
    let b = ltb (suc m) (2 ^ prec f) in
    let c = leb (down e) (2 ^ low f) in
    ltb→lt (suc m) (2 ^ prec f) (and_r a b (and_l (a && b) c (and_l (a && b && c) (ltb (suc m * up e) (2 ^ suc (emax f) * down e)) t)))

one-le : (u d : ℕ) → 0 < u → u * d ≡ 1 → d ≤ 1
one-le u d h p = le_trans (le-mul_of_pos_right d h) (le_of_eq (mul_comm d u ∙ p))

not-fine : (f : Format) (s : Bool) (m : ℕ) (e : ℤ) → T (fits f (fin s m e)) → down e ≤ 2 ^ low f
unfolding fits
not-fine f s zero e t = omega (arith, one-le (up e) (down e) (up_pos e) (eqb→eq (up e * down e) 1 t), pow_pos (low f))
not-fine f s (suc m) e t =
    let a = eqb (suc m % 2) 1 in
    let b = ltb (suc m) (2 ^ prec f) in
    let c = leb (down e) (2 ^ low f) in
    leb→le (down e) (2 ^ low f) (and_r (a && b) c (and_l (a && b && c) (ltb (suc m * up e) (2 ^ suc (emax f) * down e)) t))

-- ---- twice 2^e is 2^j of the format's smallest values

back : (l k : ℕ) → suc k ≤ l → suc (l - suc k) + k ≡ l
back l k h = omega arith

exponent : (l k : ℕ) → 2 ^ suc k ≤ 2 ^ l → suc k ≤ l
exponent l k h = lt_of_not-le (λ (g : l ≤ k). not-le_of_lt (pow-lt (omega (arith, g))) h)

steps : (l : ℕ) (e : ℤ) → down e ≤ 2 ^ l → (j : ℕ) × (2 * up e * 2 ^ l ≡ 2 ^ j * down e)
steps l (pos k) h = (suc k + l, ap (λ (x : ℕ). x * 2 ^ l) (sym (pow-succ' 2 k)) ∙ sym (pow-add 2 (suc k) l) ∙ sym (mul-one (2 ^ (suc k + l))))
steps l (negsuc k) h = (
  suc (l - suc k),
  ap (λ (x : ℕ). 2 * 2 ^ x) (sym (back l k (exponent l k h)))
      ∙ ap (λ (x : ℕ). 2 * x) (pow-add 2 (suc (l - suc k)) k)
      ∙ mul_left_comm 2 (2 ^ suc (l - suc k)) (2 ^ k)
      ∙ ap (λ (x : ℕ). 2 ^ suc (l - suc k) * x) (sym (pow-succ' 2 k)),
)

-- ---- the exact sum, as `round` is handed it: m × u / d twice, with w = 2^low and p = 2^j

units-are : (m u d w p : ℕ) → 2 * u * w ≡ p * d → (m * u * d + m * u * d) * w ≡ m * p * (d * d)
units-are m u d w p h =
    ap (λ (x : ℕ). x * w) (sym (two-mul (m * u * d)))
    ∙ simp (mul_assoc, mul_comm, mul_left_comm) (simp (mul_assoc, mul_comm, mul_left_comm) at (ap (λ (x : ℕ). m * d * x) h))

in-range : (m u d w p t : ℕ) → 0 < w → 2 * u * w ≡ p * d → 2 * (m * u) < t * d → m * p < w * t
in-range m u d w p t W h l =
    lt_of_mul-lt-mul_right d
    (lt_of_le_of_lt (le_of_eq (simp (mul_assoc, mul_comm) (simp (mul_assoc, mul_comm, mul_left_comm) at (ap (λ (x : ℕ). m * x) (sym h)))))
    (lt_of_lt_of_le (mul-lt-mul_of_pos_right l W) (le_of_eq (simp (mul_assoc, mul_comm, mul_left_comm)))))

-- the same fraction in lower terms
lower : (x : Float) (s : Bool) (a d : ℕ) → 0 < d → HasValue x s (a * d + a * d) (d * d) → HasValue x s (2 * a) d
lower nan s a d D v = v
lower (inf t) s a d D v = v
lower (fin t n g) s a d D v = (
  v.0,
  eq_of_mul-eq-mul_right d D (n * up g * d) (2 * a * down g)
      (mul_assoc (n * up g) d d ∙ v.1 ∙ ap (λ (x : ℕ). x * down g) (sym (two-mul (a * d))) ∙ simp (mul_assoc, mul_comm)),
)

same_sign : (f : Format) (s : Bool) (a c : ℕ) → sum f s a s a c ≡ round f s (a + a) c
unfolding sum
same_sign f true a c = refl
same_sign f false a c = refl

add_is : (f : Format) (s : Bool) (m : ℕ) (e : ℤ) → add f (fin s m e) (fin s m e) ≡ round f s (m * up e * down e + m * up e * down e) (down e * down e)
unfolding add
add_is f s m e = same_sign f s (m * up e * down e) (down e * down e)

pub double : (f : Format) (s : Bool) (m : ℕ) (e : ℤ) → T (fits f (fin s m e)) → 2 * (m * up e) < 2 ^ suc (emax f) * down e
    → HasValue (add f (fin s m e) (fin s m e)) s (2 * (m * up e)) (down e)
double f s m e t h =
    let j = steps (low f) e (not-fine f s m e t) in
    let small = in-range m (up e) (down e) (2 ^ low f) (2 ^ j.0) (2 ^ suc (emax f)) (pow_pos (low f)) j.1 h in
    subst (λ (x : Float). HasValue x s (2 * (m * up e)) (down e)) (sym (add_is f s m e))
    (lower (round f s (m * up e * down e + m * up e * down e) (down e * down e)) s (m * up e) (down e) (down_pos e)
    (round_exact f s (m * up e * down e + m * up e * down e) (down e * down e) m j.0 (mul-pos (down_pos e) (down_pos e)) (few-digits f s m e t)
    (subst (λ (x : ℕ). m * 2 ^ j.0 < x) (sym (pow-add 2 (low f) (suc (emax f)))) small)
    (units-are m (up e) (down e) (2 ^ low f) (2 ^ j.0) j.1)))
