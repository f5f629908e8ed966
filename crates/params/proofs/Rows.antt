-- Rows of a bank. A sum of magnitudes is at least each of them, so a row with a small sum has no coefficient that is too large; and it is what the
-- detector's places sum to just where every other place is zero.
use Rattle.std.proofs.Common.{◌≡◌, ℕ, suc, ◌+◌, ◌-◌, ◌/◌, ◌<◌, ◌≤◌, min, Bool, true, false, ◌&&◌, ◌||◌, eqb, ltb, List, [], ◌∷◌, ◌++◌, length, get_or, take, drop, take_all, ℤ, pos, negsuc, nat_abs, sym, refl, ap, ◌∙◌, append_assoc, arith, length-drop, take-append-drop, length-take-le, take-suc, le-ltb, lt-ltb, eq-eqb, ne_eqb, eqb-true, le-leb}
use Rattle.std.specs.List.{sum_by}
use Rattle.std.proofs.lemmas.List.Recursion.{is_sum_by}
use Rattle.std.proofs.lemmas.Bool.Decides.{nat_tests}
use Rattle.std.proofs.lemmas.Nat.{le_or_l, le_or_r}
use lib.Seq.{split_at}
use borrow.Author.Tests.{lt-leb}
use Rattle.params.specs.Refusal.{refusal, first_of}
use Rattle.params.specs.Banks.{coefficient_faults, magnitudes, row_faults, detector_place, zero_outside}
use Rattle.arith.specs.Arith.{within}

-- ---- the sum of the magnitudes

pub magnitudes-append : (a b : List ℤ) → magnitudes (a ++ b) ≡ magnitudes a + magnitudes b
unfolding magnitudes
magnitudes-append [] b = grind arith
magnitudes-append (c ∷ a) b = grind (arith, magnitudes-append a b)

pub magnitudes-sum : (row : List ℤ) → magnitudes row ≡ sum_by nat_abs row
unfolding magnitudes
magnitudes-sum row = is_sum_by magnitudes nat_abs refl (λ _ _. refl) row

-- one coefficient more
pub magnitudes-suc : (row : List ℤ) (i : ℕ) → i < length row → magnitudes (take (suc i) row) ≡ magnitudes (take i row) + nat_abs (get_or row i (pos 0))
unfolding magnitudes
magnitudes-suc row i h = rw (take-suc row i (pos 0) h) (omega (arith, magnitudes-append (take i row) (get_or row i (pos 0) ∷ [])))

-- what one coefficient more adds
pub ruleset one_more = (magnitudes-suc, take-suc, le_or_l, le_or_r)

-- ---- the coefficients one by one

abbrev fits18 : ℤ → Bool
fits18 c = within (negsuc 131071) (pos 131071) c

module _ (bank phase : ℕ) where
  coefficients-append : (a b : List ℤ) → coefficient_faults bank phase (a ++ b) ≡ coefficient_faults bank phase a ++ coefficient_faults bank phase b
  unfolding coefficient_faults
  coefficients-append [] b = refl
  coefficients-append (c ∷ a) b = grind (arith, append_assoc, coefficients-append a b)

  -- one more that fits
  pub coefficients-suc : (row : List ℤ) (i : ℕ) → i < length row → coefficient_faults bank phase (take i row) ≡ [] → fits18 (get_or row i (pos 0)) ≡ true
      → coefficient_faults bank phase (take (suc i) row) ≡ []
  unfolding coefficient_faults
  coefficients-suc row i h none e = rw (take-suc row i (pos 0) h, coefficients-append (take i row) (get_or row i (pos 0) ∷ []), none, e)

  -- the first that does not
  pub coefficient-first : (row : List ℤ) (i : ℕ) → i < length row → coefficient_faults bank phase (take i row) ≡ [] → fits18 (get_or row i (pos 0)) ≡ false
      → first_of (row_faults bank phase row) ≡ refusal 3 (pos bank ∷ pos phase ∷ get_or row i (pos 0) ∷ [])
  unfolding coefficient_faults row_faults
  coefficient-first row i h none e =
      let c : ℤ = get_or row i (pos 0) in
      let here : coefficient_faults bank phase row ≡ coefficient_faults bank phase (take i row) ++ coefficient_faults bank phase (c ∷ drop (suc i) row) =
      ap (coefficient_faults bank phase) (split_at row i (pos 0) h) ∙ coefficients-append (take i row) (c ∷ drop (suc i) row) in
      rw (here, none, e)

  -- none, and a sum that is too large
  pub sum_first : (row : List ℤ) → coefficient_faults bank phase row ≡ [] → 131071 < magnitudes row
      → first_of (row_faults bank phase row) ≡ refusal 4 (pos bank ∷ pos phase ∷ pos (magnitudes row) ∷ [])
  unfolding row_faults
  sum_first row none h = rw (none, lt-leb (magnitudes row) 131071 h)

  -- ---- a row with a small sum

  small-fits : (c : ℤ) → nat_abs c ≤ 131071 → fits18 c ≡ true
  small-fits (pos n) h = le-leb n 131071 h
  small-fits (negsuc n) h = grind (arith, nat_tests)

  light-coefficients : (row : List ℤ) → magnitudes row ≤ 131071 → coefficient_faults bank phase row ≡ []
  unfolding coefficient_faults magnitudes
  light-coefficients [] h = refl
  light-coefficients (c ∷ row) h = rw (small-fits c (omega arith), light-coefficients row (omega arith))

  pub light-row : (row : List ℤ) → magnitudes row ≤ 131071 → row_faults bank phase row ≡ []
  unfolding row_faults
  light-row row h = rw (light-coefficients row h, le-leb (magnitudes row) 131071 h)

-- one coefficient after the other, in a row of which the sum is too large, and none of another
pub ruleset coefficients = (take_all, coefficients-suc, coefficient-first, sum_first, light-row)

-- ---- the detector's places

zero-append : (taps t : ℕ) (a b : List ℤ) → zero_outside taps t (a ++ b) ≡ (zero_outside taps t a && zero_outside taps (t + length a) b)
unfolding zero_outside
zero-append taps t [] b = grind arith
zero-append taps t (c ∷ a) b = grind (arith, zero-append taps (suc t) a b)

-- a part that has none of them is zero where its magnitudes sum to 0
none_inside : (taps t : ℕ) (a : List ℤ) → ((j : ℕ) → t ≤ j → j < t + length a → detector_place taps j ≡ false) → zero_outside taps t a ≡ eqb (magnitudes a) 0
unfolding zero_outside magnitudes
none_inside taps t [] f = refl
none_inside taps t (c ∷ a) f = grind (arith, nat_tests, f t, none_inside taps (suc t) a (λ j l h. f j (omega arith) (omega arith)))

-- and one that has nothing else is zero elsewhere in any case
all-inside : (taps t : ℕ) (a : List ℤ) → ((j : ℕ) → t ≤ j → j < t + length a → detector_place taps j ≡ true) → zero_outside taps t a ≡ true
unfolding zero_outside
all-inside taps t [] f = refl
all-inside taps t (c ∷ a) f = rw (f t (omega arith) (omega arith), all-inside taps (suc t) a (λ j l h. f j (omega arith) (omega arith)))

-- a row of eight or fewer has nothing else
pub short-centred : (row : List ℤ) → length row ≤ 8 → zero_outside (length row) 0 row ≡ true
unfolding detector_place
short-centred row few = all-inside (length row) 0 row (λ j l h. grind (arith, nat_tests))

-- the middle's sum is the whole's just where both sides have none
pub centred : (row : List ℤ) → eqb (magnitudes (take (min 8 (length row)) (drop ((length row - 8) / 2) row))) (magnitudes row) ≡ zero_outside (length row) 0 row
unfolding detector_place
centred row =
    let taps : ℕ = length row in
    let low : ℕ = (taps - 8) / 2 in
    let wide : ℕ = min 8 taps in
    let a : List ℤ = take low row in
    let m : List ℤ = take wide (drop low row) in
    let b : List ℤ = drop wide (drop low row) in
    let la : length a ≡ low = length-take-le low row (omega arith) in
    let lm : length m ≡ wide = length-take-le wide (drop low row) (omega (arith, length-drop low row)) in
    let parts : a ++ (m ++ b) ≡ row = ap (λ (l : List ℤ). a ++ l) (take-append-drop wide (drop low row)) ∙ take-append-drop low row in
    let sum : magnitudes row ≡ magnitudes a + (magnitudes m + magnitudes b) = ap magnitudes (sym parts) ∙ magnitudes-append a (m ++ b)
    ∙ ap (λ (n : ℕ). magnitudes a + n) (magnitudes-append m b) in
    let left : zero_outside taps 0 a ≡ eqb (magnitudes a) 0 = none_inside taps 0 a (λ j l h. grind (arith, nat_tests)) in
    let inside : zero_outside taps low m ≡ true = all-inside taps low m (λ j l h. grind (arith, nat_tests)) in
    let right : zero_outside taps (low + wide) b ≡ eqb (magnitudes b) 0 = none_inside taps (low + wide) b (λ j l h. grind (arith, nat_tests)) in
    let from : 0 + length a ≡ low = omega arith in
    let whole : zero_outside taps 0 row ≡ (eqb (magnitudes a) 0 && eqb (magnitudes b) 0) =
    ap (zero_outside taps 0) (sym parts) ∙ zero-append taps 0 a (m ++ b) ∙ rw (left, from, zero-append taps low m b, lm, inside, right) in
    rw (sum, whole) (grind (arith, nat_tests))

-- the middle of a row, whatever its length
pub ruleset middle = (short-centred, centred)
