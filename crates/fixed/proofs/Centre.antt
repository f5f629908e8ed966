-- Rows of the timing detector, and a run over a part of one. Outside the detector's places their coefficients are zero and add nothing, so a run's sum over
-- its share of the places is its sum over all.
use Rattle.std.proofs.Common.{◌≡◌, ℕ, zero, suc, ◌+◌, ◌-◌, ◌/◌, ◌<◌, ◌≤◌, min, max, true, List, length, get_or, take, drop, ℤ, pos, negsuc, ◌+ℤ◌, ◌*ℤ◌, nat_abs, sym, refl, ap, ◌∙◌, arith, length-drop, length-take-le, get_or-drop, get_or-take, eqb-true}
use lib.IntN.{zero-*ℤ, +ℤ_idl, +ℤ_idr}
use Rattle.params.specs.Banks.{magnitudes, zero_outside}
use Rattle.params.proofs.Rows.{centred}
use Rattle.fixed.specs.Filter.{sum_to}
use Rattle.fixed.specs.Raised.{lowered}
use Rattle.fixed.proofs.Parts.{mag-split, mag-each}
use Rattle.fixed.proofs.RowSums.{sum_same, sum-split, run_over}

-- ---- the coefficients outside

none-small : (c : ℤ) → nat_abs c ≤ 0 → c ≡ pos 0
none-small (pos zero) h = refl
none-small (pos (suc n)) h = let z : ⊥ = omega arith in absurd z
none-small (negsuc n) h = let z : ⊥ = omega arith in absurd z

-- where the detector's places begin, and how many there are
abbrev pub low : List ℤ → ℕ
low row = (length row - 8) / 2

abbrev pub wide : List ℤ → ℕ
wide row = min 8 (length row)

abbrev middle : List ℤ → List ℤ
middle row = take (wide row) (drop (low row) row)

abbrev behind : List ℤ → List ℤ
behind row = drop (wide row) (drop (low row) row)

module _ (row : List ℤ) (z : zero_outside (length row) 0 row ≡ true) where
  -- the middle has all of the magnitudes
  all_in : magnitudes row ≡ magnitudes (middle row)
  all_in = sym (eqb-true (magnitudes (middle row)) (magnitudes row) (centred row ∙ z))

  split : magnitudes row ≡ magnitudes (take (low row) row) + (magnitudes (middle row) + magnitudes (behind row))
  split = sym (mag-split row (low row)) ∙ ap (λ (n : ℕ). magnitudes (take (low row) row) + n) (sym (mag-split (drop (low row) row) (wide row)))

  front-zero : (n : ℕ) → n < low row → get_or row n (pos 0) ≡ pos 0
  front-zero n h =
      let inside : n < length (take (low row) row) = omega (arith, length-take-le (low row) row (omega arith)) in
      sym (get_or-take (low row) row n (pos 0) h)
      ∙ none-small (get_or (take (low row) row) n (pos 0)) (omega (arith, mag-each (take (low row) row) n inside, split, all_in))

  back-zero : (n : ℕ) → low row + wide row ≤ n → n < length row → get_or row n (pos 0) ≡ pos 0
  back-zero n h l =
      let m : ℕ = n - (low row + wide row) in
      let inside : m < length (behind row) = omega (arith, length-drop (wide row) (drop (low row) row), length-drop (low row) row) in
      let e : low row + (wide row + m) ≡ n = omega arith in
      sym (get_or-drop (wide row) (drop (low row) row) m (pos 0) ∙ get_or-drop (low row) row (wide row + m) (pos 0) ∙ ap (λ (k : ℕ). get_or row k (pos 0)) e)
      ∙ none-small (get_or (behind row) m (pos 0)) (omega (arith, mag-each (behind row) m inside, split, all_in))

-- ---- sums of which a part is zero

zeros : (f : ℕ → ℤ) (n : ℕ) → ((m : ℕ) → m < n → f m ≡ pos 0) → sum_to f n ≡ pos 0
unfolding sum_to
zeros f zero h = refl
zeros f (suc n) h = ap (λ (z : ℤ). z +ℤ f n) (zeros f n (λ m l. h m (omega arith))) ∙ +ℤ_idl (f n) ∙ h n (omega arith)

-- zeros in front of n numbers, and behind them
sum-middle : (f : ℕ → ℤ) (a n b : ℕ) → ((m : ℕ) → m < a → f m ≡ pos 0) → ((m : ℕ) → a + n ≤ m → m < a + n + b → f m ≡ pos 0)
    → sum_to f (a + n + b) ≡ sum_to (λ m. f (a + m)) n
sum-middle f a n b front back =
    sum-split f (a + n) b
    ∙ ap (λ (z : ℤ). sum_to f (a + n) +ℤ z) (zeros (λ m. f (a + n + m)) b (λ m l. back (a + n + m) (omega arith) (omega arith)))
    ∙ +ℤ_idr (sum_to f (a + n)) ∙ sum-split f a n ∙ ap (λ (z : ℤ). z +ℤ sum_to (λ m. f (a + m)) n) (zeros f a front) ∙ +ℤ_idl (sum_to (λ m. f (a + m)) n)

-- ---- a run's share of the detector's places

-- Of the places low..high, a run over from..to has those from `begin` on and below `end`.
pub record Share (low high from to begin end : ℕ) : Type 0 where
  pub starts : from ≤ begin
  pub ordered : begin ≤ end
  pub ends : end ≤ to
  pub front : (n : ℕ) → from ≤ n → n < begin → n < low
  pub back : (n : ℕ) → end ≤ n → n < to → high ≤ n

-- these are the ends, each held within the run
pub share-is : (low high from to : ℕ) → low ≤ high → from ≤ to → Share low high from to (min (max low from) to) (min (max high from) to)
share-is low high from to h k =
    record { starts = omega arith; ordered = omega arith; ends = omega arith; front = λ n a b. omega arith; back = λ n a b. omega arith }

module _ (row : List ℤ) (z : zero_outside (length row) 0 row ≡ true) (from place count : ℕ) {begin end : ℕ} (inside : from + count ≤ length row)
    (s : Share (low row) (low row + wide row) from (from + count) begin end) where
  -- a component of the run's sums, and of those over its share
  all : List ℕ → ℕ → ℤ
  all kept n = get_or row (from + n) (pos 0) *ℤ lowered (get_or kept (place + n) 0)

  silent : (kept : List ℕ) (n : ℕ) → get_or row (from + n) (pos 0) ≡ pos 0 → all kept n ≡ pos 0
  unfolding all
  silent kept n e = ap (λ (c : ℤ). c *ℤ lowered (get_or kept (place + n) 0)) e ∙ zero-*ℤ (lowered (get_or kept (place + n) 0))

  over-share : (kept : List ℕ)
      → sum_to (λ n. get_or row (begin + n) (pos 0) *ℤ lowered (get_or kept (place + (begin - from) + n) 0)) (end - begin) ≡ sum_to (all kept) count
  unfolding all
  over-share kept =
      let before : ℕ = begin - from in
      let within : ℕ = end - begin in
      let rest : ℕ = from + count - end in
      let e : before + within + rest ≡ count = omega (arith, s.starts, s.ordered, s.ends) in
      sum_same (λ n. get_or row (begin + n) (pos 0) *ℤ lowered (get_or kept (place + before + n) 0)) (λ n. all kept (before + n)) within
      (λ n h.
      let r : begin + n ≡ from + (before + n) = omega (arith, s.starts) in
      let p : place + before + n ≡ place + (before + n) = omega arith in
      λ t. get_or row (r t) (pos 0) *ℤ lowered (get_or kept (p t) 0))
      ∙ sym (sum-middle (all kept) before within rest
      (λ n h. silent kept n (front-zero row z (from + n) (s.front (from + n) (omega arith) (omega (arith, s.starts)))))
      (λ n h l. silent kept n
      (back-zero row z (from + n) (s.back (from + n) (omega (arith, s.starts, s.ordered)) (omega (arith, e))) (omega (arith, e)))))
      ∙ ap (sum_to (all kept)) e

  pub share-sums : (i q : List ℕ) → run_over row i q begin (place + (begin - from)) (end - begin) ≡ run_over row i q from place count
  unfolding run_over all
  share-sums i q = λ t. record { i = over-share i t; q = over-share q t }
