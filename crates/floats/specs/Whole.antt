-- Floats as whole numbers, exactly. A float is the kit's: a NaN, an infinity, or a sign with the size m × 2^e, which is the fraction m × up e / down e.
-- The kit also has Rust's casts, for every width: `to_unsigned w` and `to_signed h` (h bits and a sign) drop the fraction, go to the nearer end from outside the
-- range, and make 0 of a NaN.
use Rattle.std.specs.Prelude.{◌*◌, pos, Float}
use Rattle.std.specs.Float.{nan, inf, fin}
use Rattle.std.specs.Float.Ieee.{up, down}
use Rattle.arith.specs.Arith.{nearest_up}

-- The whole number nearest to x, and of two that are as near the one farther from zero. A NaN and the infinities stay what they are.
-- It is the number that counts here, and not how the format would write it: only casts read it, and they read the number.
-- (RULES 2.6, as 6.2 and 6.3 use it)
unfoldable pub round_away : Float → Float
round_away nan = nan
round_away (inf s) = inf s
round_away (fin s m e) = fin s (nearest_up (m * up e) (down e)) (pos 0)
