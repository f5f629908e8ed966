-- A run over the line and its share of the detector's places: the parts of rows and line that go to the two loops are rows and numbers as these take them, and
-- their sums are the run's (TwoRuns). What h and g have outside the share adds nothing (Centre).
use Rattle.std.proofs.Common.{◌≡◌, ℕ, ◌+◌, ◌-◌, ◌/◌, ◌≤◌, min, max, true, List, length, take, drop, ℤ, sym, refl, ap, ◌∙◌, subst, arith, length-drop, length-take-le}
use Rattle.params.specs.Banks.{zero_outside}
use Rattle.symbol.specs.declared.Sums.{Sums}
use Rattle.fixed.specs.TwoRuns.{run_sums}
use Rattle.fixed.specs.Raised.{In32, paired}
use Rattle.fixed.specs.Rows.{Row, Filterable}
use Rattle.fixed.specs.Inside.{sums_over, Beside, SumsUpto}
use Rattle.fixed.proofs.Parts.{row-take, row_drop, beside-part}
use Rattle.fixed.proofs.Centre.{low, wide, Share, share-is, share-sums}
use Rattle.fixed.proofs.RowSums.{run_over, sums-wider}
use Rattle.fixed.proofs.TwoRuns.{part-sums, run-paired}

-- Where the run's share of the detector's places begins and ends, as the code finds it: the detector's ends, held within the run.
pub record Cut (taps from count first last begin end : ℕ) : Type 0 where
  pub first-is : first ≡ (taps - 8) / 2
  pub last-is : last ≡ first + min 8 taps
  pub begins : begin ≡ max from (min first (from + count))
  pub ends : end ≡ max from (min last (from + count))

pub cut-at : {taps from count first last begin end : ℕ} → first ≡ (taps - 8) / 2 → last ≡ first + min 8 taps → begin ≡ max from (min first (from + count))
    → end ≡ max from (min last (from + count)) → Cut taps from count first last begin end
cut-at a b c d = record { first-is = a; last-is = b; begins = c; ends = d }

-- held within the run in either order
held-within : (n from count : ℕ) → max from (min n (from + count)) ≡ min (max n from) (from + count)
held-within n from count = omega arith

-- The line's two components: arrays of 64 raised numbers.
pub record Lent (i q : List ℕ) : Type 0 where
  pub long-i : length i ≡ 64
  pub long-q : length q ≡ 64
  pub small-i : In32 64 i
  pub small-q : In32 64 q

module _ {h g k : List ℤ} {i q : List ℕ} (lent : Filterable h g k) (line : Lent i q) (from place count : ℕ) (in_row : from + count ≤ length k)
    (in-line : place + count ≤ length k) {first last begin end : ℕ} (cut : Cut (length k) from count first last begin end) where
  short : length k ≤ 64
  short = lent.row-k.short

  share : (row : List ℤ) → length row ≡ length k → Share (low row) (low row + wide row) from (from + count) begin end
  share row e =
      let at_low : first ≡ low row = cut.first-is ∙ ap (λ (n : ℕ). (n - 8) / 2) (sym e) in
      let at_high : last ≡ low row + wide row = cut.last-is ∙ (λ t. at_low t + min 8 (sym e t)) in
      let begins : min (max (low row) from) (from + count) ≡ begin =
      sym (cut.begins ∙ held-within first from count ∙ ap (λ (n : ℕ). min (max n from) (from + count)) at_low) in
      let ends : min (max (low row + wide row) from) (from + count) ≡ end =
      sym (cut.ends ∙ held-within last from count ∙ ap (λ (n : ℕ). min (max n from) (from + count)) at_high) in
      subst (λ (n : ℕ). Share (low row) (low row + wide row) from (from + count) n end) begins
      (subst (λ (n : ℕ). Share (low row) (low row + wide row) from (from + count) (min (max (low row) from) (from + count)) n) ends
      (share-is (low row) (low row + wide row) from (from + count) (omega arith) (omega arith)))

  -- so it lies within the run
  starts : from ≤ begin
  starts = (share k refl).starts

  ordered : begin ≤ end
  ordered = (share k refl).ordered

  stops : end ≤ from + count
  stops = (share k refl).ends

  -- ---- the share's parts

  abbrev place-begin : ℕ
  place-begin = place + (begin - from)

  -- as many places of the line as coefficients
  abbrev places : ℕ
  places = place + (end - from) - place-begin

  as_many : places ≡ end - begin
  as_many = omega (arith, starts)

  abbrev part : List ℤ → List ℤ
  part row = take (end - begin) (drop begin row)

  part-long : (row : List ℤ) → length row ≡ length k → length (part row) ≡ end - begin
  part-long row e = length-take-le (end - begin) (drop begin row) (omega (arith, length-drop begin row, stops, in_row, ordered))

  pub share-rows : Row (part h) × (Row (part g) × (length (part g) ≡ length (part h)))
  share-rows = (
    row-take (end - begin) (row_drop begin lent.row-h),
    (row-take (end - begin) (row_drop begin lent.row-g), part-long g lent.long-g ∙ sym (part-long h lent.long-h)),
  )

  pub share-beside : Beside (length (part h)) (take places (drop place-begin i)) (take places (drop place-begin q))
  share-beside =
      rw (part-long h lent.long-h, as_many)
      (beside-part place-begin (end - begin) i q (omega (arith, starts, ordered, stops, in-line, short)) line.long-i line.long-q line.small-i line.small-q)

  -- a run over what is kept is one over the line that it stands for
  over-line : (row : List ℤ) → run_over row i q from place count ≡ run_sums row (paired i q) from place count
  over-line row = run-paired row i q line.long-i line.long-q from place count (omega (arith, in-line, short))

  pub share-is-run : (row : List ℤ) → length row ≡ length k → zero_outside (length row) 0 row ≡ true
      → sums_over (part row) (take places (drop place-begin i)) (take places (drop place-begin q)) ≡ run_sums row (paired i q) from place count
  share-is-run row e z =
      rw as_many
      (part-sums row i q begin place-begin (end - begin) (omega (arith, ordered, stops, in_row, e))
      ∙ share-sums row z from place count (omega (arith, in_row, e)) (share row e) i q ∙ over-line row)

  -- it is no longer than the run
  pub share-few : (m : ℕ) {s : Sums} → SumsUpto (m + length (part h)) s → SumsUpto (m + count) s
  share-few m = sums-wider (omega (arith, part-long h lent.long-h, starts, stops))

  -- ---- all of the run

  abbrev coefficients : ℕ
  coefficients = from + count - from

  abbrev numbers : ℕ
  numbers = place + count - place

  coefficients-all : coefficients ≡ count
  coefficients-all = omega arith

  numbers-all : numbers ≡ count
  numbers-all = omega arith

  pub run-row : Row (take coefficients (drop from k))
  run-row = row-take coefficients (row_drop from lent.row-k)

  pub run-long : length (take coefficients (drop from k)) ≡ count
  run-long = rw coefficients-all (length-take-le count (drop from k) (omega (arith, length-drop from k, in_row)))

  pub run-beside : Beside (length (take coefficients (drop from k))) (take numbers (drop place i)) (take numbers (drop place q))
  run-beside =
      rw (run-long, numbers-all)
      (beside-part place count i q (omega (arith, in-line, short)) line.long-i line.long-q line.small-i line.small-q)

  pub run-is :
      sums_over (take coefficients (drop from k)) (take numbers (drop place i)) (take numbers (drop place q)) ≡ run_sums k (paired i q) from place count
  run-is = rw (coefficients-all, numbers-all) (part-sums k i q from place count in_row ∙ over-line k)
