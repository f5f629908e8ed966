-- `fixed::filter::filter` meets its contract: the first run has the coefficients and places up to the end of the line, the second all others.
-- What the two add up to are the sums over the line (TwoRuns).
use Rattle.std.proofs.Common.{◌≡◌, ℕ, ◌+◌, ◌-◌, ◌<◌, ◌≤◌, List, [], ◌∷◌, length, ℤ, ap, ◌∙◌, arith, rules}
use lib.IntN.{+ℤ_idl}
use Rattle.symbol.specs.declared.Sums.{Sums}
use Rattle.state.specs.declared.Pair.{Pair}
use Rattle.fixed.specs.declared.filter.Summed.{Summed}
use Rattle.fixed.specs.Filter.{sums_of}
use Rattle.fixed.specs.TwoRuns.{first_run, second_run, together}
use Rattle.fixed.specs.Rows.{ThreeRows}
use Rattle.fixed.specs.Inside.{SummedUpto, RunAdds, no_sums, none_summed, unraised_sums}
use Rattle.fixed.proofs.RowSums.{summed-wider}
use Rattle.fixed.proofs.TwoRuns.{two_runs}
use Rattle.fixed.proofs.filter.filter.Goals as goal

none-upto : SummedUpto 0 none_summed
none-upto = record {
  detected = record { h = record { i = omega arith; q = omega arith }; g = record { i = omega arith; q = omega arith } };
  output = record { i = omega arith; q = omega arith; coefficients = omega arith; line-i = omega arith; line-q = omega arith };
}

-- ---- both runs, one after the other

module _ (rows : ThreeRows) (line : List Pair) (head : ℕ) (newest : head < length rows.k) {none first both : Summed} (bare : none ≡ none_summed)
    (one : RunAdds rows line 0 head (length rows.k - head) none first) (two : RunAdds rows line (length rows.k - head) 0 head first both) where
  abbrev taps : ℕ
  taps = length rows.k

  first-upto : SummedUpto (0 + (taps - head)) first
  first-upto = one.few 0 (rw bare none-upto)

  both-upto : SummedUpto taps both
  both-upto = summed-wider (omega arith) (two.few (0 + (taps - head)) first-upto)

  -- what the first run leaves on top of nothing, the second adds to
  total : (row : List ℤ) {a b : Sums} → a ≡ together no_sums (first_run taps row line head) → b ≡ together a (second_run taps row line head)
      → b ≡ sums_of taps row line head
  total row {a} e f =
      let one : Sums = first_run taps row line head in
      let alone : together no_sums one ≡ one = λ t. record { i = +ℤ_idl one.i t; q = +ℤ_idl one.q t } in
      f ∙ ap (λ (s : Sums). together s (second_run taps row line head)) (e ∙ alone) ∙ two_runs taps row line head newest

  total-h : both.detected.h ≡ sums_of taps rows.h line head
  total-h = total rows.h (one.of-h ∙ ap (λ (z : Summed). together z.detected.h (first_run taps rows.h line head)) bare) two.of-h

  total-g : both.detected.g ≡ sums_of taps rows.g line head
  total-g = total rows.g (one.of-g ∙ ap (λ (z : Summed). together z.detected.g (first_run taps rows.g line head)) bare) two.of-g

  total-k : unraised_sums both.output ≡ sums_of taps rows.k line head
  total-k = total rows.k (one.of-k ∙ ap (λ (z : Summed). together (unraised_sums z.output) (first_run taps rows.k line head)) bare) two.of-k

pub unraised-requires : goal.unraised-requires
unraised-requires c =
    let rows = c.args.rows.now in
    let line = c.args.line.now in
    let head = c.args.head in
    let taps = ap (λ (r : ThreeRows). length r.k) c.rows.view_is in
    let one : RunAdds rows line 0 head (length rows.k - head) c.default.result c.line_run-first.result = rw taps at c.line_run-first.ensures in
    let two : RunAdds rows line (length rows.k - head) 0 head c.line_run-first.result c.line_run-both.result = rw taps at c.line_run-both.ensures in
    let short : length rows.k ≤ 64 = omega (arith, taps, c.rows.invariant.row-k.short) in
    (summed-wider short (both-upto rows line head c.requires (search rules) one two)).output

pub returns : goal.returns
returns c =
    let rows = c.args.rows.now in
    let line = c.args.line.now in
    let head = c.args.head in
    let taps = ap (λ (r : ThreeRows). length r.k) c.rows.view_is in
    let one : RunAdds rows line 0 head (length rows.k - head) c.default.result c.line_run-first.result = rw taps at c.line_run-first.ensures in
    let two : RunAdds rows line (length rows.k - head) 0 head c.line_run-first.result c.line_run-both.result = rw taps at c.line_run-both.ensures in
    let h = total-h rows line head c.requires (search rules) one two in
    let g = total-g rows line head c.requires (search rules) one two in
    let k = c.unraised.ensures ∙ total-k rows line head c.requires (search rules) one two in
    λ t. h t ∷ g t ∷ k t ∷ []
