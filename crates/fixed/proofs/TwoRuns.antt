-- The two runs over the line. Up to the end of the line the n-th newest number stands n places behind the newest, and beyond it as many places from the line's
-- beginning as are left; so a row's sum over the ring splits where the line ends.
use Rattle.std.proofs.Common.{◌≡◌, ℕ, ◌+◌, ◌-◌, ◌%◌, ◌<◌, ◌≤◌, List, length, get_or, take, drop, ℤ, pos, ◌+ℤ◌, ◌*ℤ◌, sym, ap, ◌∙◌, mod-eq_of_lt, arith, length-drop, length-take-le, get_or-drop, get_or-take}
use native.Mathlib.Nat.{add-mod_right}
use Rattle.state.specs.declared.Pair.{Pair}
use Rattle.state.specs.Start.{no_pair}
use Rattle.fixed.specs.Line.{nth_newest}
use Rattle.fixed.specs.Filter.{sum_to, sums_of}
use Rattle.fixed.specs.TwoRuns.{run_sums, TwoRuns}
use Rattle.fixed.specs.Raised.{lowered, paired}
use Rattle.fixed.specs.Inside.{sum_over, sums_over}
use Rattle.fixed.proofs.Paired.{pair_at, paired-at}
use Rattle.fixed.proofs.RowSums.{sum_same, sum-split, coefficient, term, run_over}

-- ---- the claim

module _ (taps : ℕ) (row : List ℤ) (line : List Pair) (head : ℕ) (h : head < taps) (of : Pair → ℤ) where
  -- places of the first run, and of the second
  near : (n : ℕ) → n < taps - head → (head + n) % taps ≡ head + n
  near n l = mod-eq_of_lt (omega arith)

  far : (n : ℕ) → n < head → (head + (taps - head + n)) % taps ≡ n
  far n l = let e : head + (taps - head + n) ≡ n + taps = omega arith in ap (λ (m : ℕ). m % taps) e ∙ add-mod_right n taps ∙ mod-eq_of_lt (omega arith)

  -- one component of a row's sums
  ring-term : ℕ → ℤ
  ring-term n = coefficient row n *ℤ of (get_or line ((head + n) % taps) no_pair)

  in_two : sum_to (λ n. coefficient row (0 + n) *ℤ of (get_or line (head + n) no_pair)) (taps - head)
      +ℤ sum_to (λ n. coefficient row (taps - head + n) *ℤ of (get_or line (0 + n) no_pair)) head ≡ sum_to ring-term taps
  unfolding ring-term
  in_two =
      let e : taps - head + head ≡ taps = omega arith in
      let from-0 : (n : ℕ) → 0 + n ≡ n = λ n. omega arith in
      let first = sum_same (λ n. coefficient row (0 + n) *ℤ of (get_or line (head + n) no_pair)) ring-term (taps - head)
      (λ n l. λ t. coefficient row (from-0 n t) *ℤ of (get_or line (sym (near n l) t) no_pair)) in
      let second = sum_same (λ n. coefficient row (taps - head + n) *ℤ of (get_or line (0 + n) no_pair)) (λ n. ring-term (taps - head + n)) head
      (λ n l. ap (λ (m : ℕ). coefficient row (taps - head + n) *ℤ of (get_or line m no_pair)) (from-0 n ∙ sym (far n l))) in
      (λ t. first t +ℤ second t) ∙ sym (sum-split ring-term (taps - head) head) ∙ ap (sum_to ring-term) e

pub two_runs : TwoRuns
unfolding run_sums sums_of nth_newest ring-term
two_runs taps row line head h =
    let x = in_two taps row line head h (λ (a : Pair). a.i) in
    let y = in_two taps row line head h (λ (a : Pair). a.q) in
    λ t. record { i = x t; q = y t }

-- ---- the runs over what a block keeps

-- a part of a row over as many numbers, as the code cuts them
part-sum : (row : List ℤ) (kept : List ℕ) (from place n : ℕ) → from + n ≤ length row
    → sum_over (take n (drop from row)) (take n (drop place kept)) ≡ sum_to (λ m. coefficient row (from + m) *ℤ lowered (get_or kept (place + m) 0)) n
unfolding sum_over
part-sum row kept from place n h =
    let long : length (take n (drop from row)) ≡ n = length-take-le n (drop from row) (omega (arith, length-drop from row)) in
    ap (sum_to (term (take n (drop from row)) (take n (drop place kept)))) long
    ∙ sum_same (term (take n (drop from row)) (take n (drop place kept))) (λ m. coefficient row (from + m) *ℤ lowered (get_or kept (place + m) 0)) n
    (λ m l. rw (
      get_or-take n (drop from row) m (pos 0) l,
      get_or-take n (drop place kept) m 0 l,
      get_or-drop from row m (pos 0),
      get_or-drop place kept m 0,
    ))

pub part-sums : (row : List ℤ) (i q : List ℕ) (from place n : ℕ) → from + n ≤ length row
    → sums_over (take n (drop from row)) (take n (drop place i)) (take n (drop place q)) ≡ run_over row i q from place n
unfolding sums_over run_over
part-sums row i q from place n h = λ t. record { i = part-sum row i from place n h t; q = part-sum row q from place n h t }

-- they are runs over the line
pub run-paired : (row : List ℤ) (i q : List ℕ) → length i ≡ 64 → length q ≡ 64 → (from place count : ℕ) → place + count ≤ 64
    → run_over row i q from place count ≡ run_sums row (paired i q) from place count
unfolding run_over run_sums
run-paired row i q a b from place count h =
    let line = paired i q in
    let at : (n : ℕ) → n < count → pair_at i q (place + n) ≡ get_or line (place + n) no_pair =
    λ n l. sym (paired-at i q (place + n) (a ∙ sym b) (omega arith)) in
    let x = sum_same (λ n. coefficient row (from + n) *ℤ lowered (get_or i (place + n) 0))
    (λ n. coefficient row (from + n) *ℤ (get_or line (place + n) no_pair).i) count (λ n l. λ t. coefficient row (from + n) *ℤ (at n l t).i) in
    let y = sum_same (λ n. coefficient row (from + n) *ℤ lowered (get_or q (place + n) 0))
    (λ n. coefficient row (from + n) *ℤ (get_or line (place + n) no_pair).q) count (λ n l. λ t. coefficient row (from + n) *ℤ (at n l t).q) in
    λ t. record { i = x t; q = y t }
