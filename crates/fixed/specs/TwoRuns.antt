-- What is claimed of the filter's order of work: the line is walked in two runs, from its newest place to its end and then from its beginning, and a row's sums
-- over the two together are its sums over the line.
-- (RULES 3.7)
use Rattle.std.specs.Prelude.{◌≡◌, ℕ, ◌+◌, ◌-◌, ◌<◌, List, get_or, ℤ, pos, ◌+ℤ◌, ◌*ℤ◌, slice_index_or}
use Rattle.symbol.specs.declared.Sums.{Sums}
use Rattle.state.specs.declared.Pair.{Pair}
use Rattle.state.specs.Start.{no_pair}
use Rattle.fixed.specs.Filter.{sum_to, sums_of}

-- A run's sums: `count` coefficients of a row, from number `from` on, times as many pairs of the line, from place `place` on.
unfoldable pub run_sums : List ℤ → List Pair → ℕ → ℕ → ℕ → Sums
run_sums row line from place count = record {
  i = sum_to (λ n. slice_index_or row (from + n) (pos 0) *ℤ (get_or line (place + n) no_pair).i) count;
  q = sum_to (λ n. slice_index_or row (from + n) (pos 0) *ℤ (get_or line (place + n) no_pair).q) count;
}

-- The first run: the line's places from `head` to the last of its `taps`, with the row's first coefficients.
abbrev pub first_run : ℕ → List ℤ → List Pair → ℕ → Sums
first_run taps row line head = run_sums row line 0 head (taps - head)

-- The second run: the places below `head`, with the coefficients behind those of the first.
abbrev pub second_run : ℕ → List ℤ → List Pair → ℕ → Sums
second_run taps row line head = run_sums row line (taps - head) 0 head

-- Two sums as one.
abbrev pub together : Sums → Sums → Sums
together a b = record { i = a.i +ℤ b.i; q = a.q +ℤ b.q }

-- Any line, any row, accepted or not, and any head below `taps`.
abbrev pub TwoRuns : Type 0
TwoRuns =
    (taps : ℕ) (row : List ℤ) (line : List Pair) (head : ℕ) → head < taps
    → together (first_run taps row line head) (second_run taps row line head) ≡ sums_of taps row line head
