-- The line of the last mixed samples: a ring in the first `taps` of 64 places, whose newest stands at `head`.
-- (RULES 3.4)
use Rattle.std.specs.Prelude.{ℕ, ◌+◌, ◌-◌, ◌%◌, cond, List, ◌==◌, slice_index_or}
use Rattle.state.specs.declared.Pair.{Pair}
use Rattle.state.specs.Start.{no_pair}

-- Where the next sample goes, in the place of the oldest: one position down, and from 0 to the last.
unfoldable pub next_head : ℕ → ℕ → ℕ
next_head taps head = cond (head == 0) (taps - 1) (head - 1)

-- The n-th newest sample, counted from 0.
unfoldable pub nth_newest : ℕ → List Pair → ℕ → ℕ → Pair
nth_newest taps line head n = slice_index_or line ((head + n) % taps) no_pair
