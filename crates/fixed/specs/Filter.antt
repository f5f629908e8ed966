-- The filter: each bank's row for the phase, coefficient by coefficient times the samples of the line, newest first.
-- (RULES 3.7)
use Rattle.std.specs.Prelude.{ℕ, zero, suc, List, [], ◌∷◌, ℤ, pos, ◌+ℤ◌, ◌*ℤ◌, slice_index_or}
use Rattle.params.specs.Banks.{row_of}
use Rattle.params.specs.Judge.{Sheet}
use Rattle.symbol.specs.declared.Sums.{Sums}
use Rattle.state.specs.declared.Pair.{Pair}
use Rattle.fixed.specs.Line.{nth_newest}

-- f 0 + f 1 + .. + f (n - 1).
unfoldable pub sum_to : (ℕ → ℤ) → ℕ → ℤ
sum_to f zero = pos 0
sum_to f (suc n) = sum_to f n +ℤ f n

-- One row's sums over the line, for I and for Q.
unfoldable pub sums_of : ℕ → List ℤ → List Pair → ℕ → Sums
sums_of taps row line head = record {
  i = sum_to (λ n. slice_index_or row n (pos 0) *ℤ (nth_newest taps line head n).i) taps;
  q = sum_to (λ n. slice_index_or row n (pos 0) *ℤ (nth_newest taps line head n).q) taps;
}

-- The sums of the rows `phase` of h, g and k, in this order.
unfoldable pub filtered : Sheet → ℕ → List Pair → ℕ → List Sums
filtered s phase line head =
    let taps : ℕ = s.params.taps in
    sums_of taps (row_of taps s.h phase) line head ∷ sums_of taps (row_of taps s.g phase) line head
    ∷ sums_of taps (row_of taps s.k phase) line head ∷ []
