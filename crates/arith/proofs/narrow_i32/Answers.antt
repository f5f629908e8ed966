-- The library's conversion has the number where 32 bits do, and an error elsewhere, for which 0 stands (Narrowed).
use mir.Syntax.{w32}
use native.Mathlib.Omega.{arith}
use mir.Facts.{to_z-of_z}
use Rattle.std.proofs.lemmas.Int.{ints}
use Rattle.arith.proofs.Bits.{held}
use Rattle.arith.specs.Arith.{narrow_i32}
use Rattle.arith.proofs.Narrowed.{narrowed}
use Rattle.arith.proofs.narrow_i32.Goals as goal

pub returns : goal.returns
unfolding narrow_i32
returns c =
    let h = simp (to_z-of_z c.ranges.v) at c.try_from.ensures in
    grind (arith, ints, narrowed w32 c.try_from.result c.args.v h, held w32 c.unwrap_or.result c.unwrap_or.type_inv)
