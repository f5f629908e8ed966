-- The library's conversion has the number where 16 bits do, and an error elsewhere, for which 0 stands (Narrowed).
use mir.Syntax.{w16}
use mir.Facts.{to_z-of_z}
use Rattle.arith.proofs.Bits.{held}
use Rattle.arith.specs.Arith.{narrow_i16}
use Rattle.arith.proofs.Narrowed.{narrowed}
use Rattle.arith.proofs.narrow_i16.Goals as goal

pub returns : goal.returns
unfolding narrow_i16
returns c = let h = simp (to_z-of_z c.ranges.v) at c.try_from.ensures in rw (held w16 _ c.unwrap_or.type_inv, c.unwrap_or.ensures) (narrowed w16 c.try_from.result c.args.v h)
