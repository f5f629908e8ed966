-- Where the numbers of a line go: I and Q of pair n to the places 2n and 2n + 1.
-- (RULES 7.2)
use Rattle.std.specs.Prelude.{ℕ, ◌*◌, ◌/◌, ◌+◌, cond, List, ltb, ℤ, length, set}
use Rattle.arith.specs.Arith.{narrow_i16}

-- The sample values with this pair. A pair for which there are not two places changes nothing.
unfoldable pub pair_at : List ℤ → ℕ → ℤ → ℤ → List ℤ
pair_at values n i q = cond (ltb n (length values / 2)) (set (set values (2 * n) (narrow_i16 i)) (2 * n + 1) (narrow_i16 q)) values
