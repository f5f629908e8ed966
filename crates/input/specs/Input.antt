-- What the front end takes of a float sample, whose full scale is ±1. Each component is made by itself.
-- (RULES 6.2)
use Rattle.std.specs.Prelude.{◌%◌, false, cond, List, ◌++◌, map, length, drop, ℤ, pos, ◌==◌, nat_le, Float}
use Rattle.std.specs.Float.{fin, binary32}
use Rattle.std.specs.Float.Ieee.{mul, to_signed}
use Rattle.floats.specs.Whole.{round_away}
use Rattle.kinds.specs.Answer.{Answer, answered, first_number}

-- 2048, as a float.
abbrev pub full_scale : Float
full_scale = fin false 1 (pos 11)

-- A component: times 2048, where the product is an f32 and rounded as one; to the nearest whole number, ties away from zero; held to 11 bits and a sign,
-- which are the numbers from -2048 to 2047. A NaN becomes 0.
unfoldable pub component_of : Float → ℤ
component_of x = to_signed 11 (round_away (mul binary32 x full_scale))

-- Float samples: 10 for an odd number of floats, then 11 where there are fewer places than floats. Each float is a component by itself, and goes to the
-- place of its number. (RULES 8.5)
unfoldable pub sample_answer : List Float → List ℤ → Answer
sample_answer floats places =
    answered (first_number (cond (length floats % 2 == 0) 0 10) (cond (nat_le (length floats) (length places)) 0 11))
    (map component_of floats ++ drop (length floats) places) places
