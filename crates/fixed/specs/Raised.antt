-- How a block keeps the line while it runs: each component in an array of its own, and each number raised by 2^31, so that none is below zero.
-- Contracts see of it the line that it stands for.
use Rattle.std.specs.Prelude.{ℕ, ◌<◌, List, [], ◌∷◌, ℤ, pos, ◌-ℤ◌, slice_index}
use Rattle.state.specs.declared.Pair.{Pair}

-- A raised number, as it was.
abbrev pub lowered : ℕ → ℤ
lowered u = pos u -ℤ pos 2147483648

-- The first n numbers are below 2^32, as raised numbers of 32 bits are.
abbrev pub In32 : ℕ → List ℕ → Type 0
In32 n raised = (m : ℕ) → m < n → slice_index raised m < 4294967296

-- The pairs of both components.
unfoldable pub paired : List ℕ → List ℕ → List Pair
paired [] q = []
paired (x ∷ i) [] = []
paired (x ∷ i) (y ∷ q) = record { i = lowered x; q = lowered y } ∷ paired i q
