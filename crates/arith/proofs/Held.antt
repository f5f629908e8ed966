-- What 16 bits hold of a number: always a number of 16 bits, and the number itself where nothing was changed.
-- A number that is neither above another nor below it is the same.
use mathlib.Core.Path.{◌≡◌}
use mathlib.Core.Bool.{false}
use native.Mathlib.Omega.{arith}
use lib.IntN.{ℤ}
use mir.Syntax.{w16}
use mir.Val.{SFits}
use Rattle.std.proofs.lemmas.Int.{ints}
use Rattle.arith.specs.Arith.{clamp_z, sat16_z, sat16_changes}

pub sat16-fits : (v : ℤ) → SFits w16 (sat16_z v)
unfolding sat16_z clamp_z
sat16-fits v = grind (arith, ints)

pub unchanged : (v : ℤ) → sat16_changes v ≡ false → sat16_z v ≡ v
unfolding sat16_changes sat16_z clamp_z
unchanged v none = grind (arith, ints)
