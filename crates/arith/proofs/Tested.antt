-- Tests as the code makes them: the size of a number that was tested against two ends, and whether two numbers are the same.
-- The code compares bits, and those of a number that fits are its own.
use Prim.Native.Nat.{◌≤◌}
use mathlib.Core.Path.{◌≡◌}
use mathlib.Core.Bool.{true, not, ◌||◌}
use Rattle.std.proofs.lemmas.Int.{ints}
use native.Mathlib.Omega.{arith}
use lib.Dec.{eqb}
use lib.IntN.{ℤ, neg_ℤ, nat_abs}
use lib.Signed.{lt_z, le_z}
use mir.Syntax.{Width}
use mir.Val.{SFits, of_z}

-- a number that is no further from zero than an end to either side
pub between-abs : (e z : ℤ) → le_z (neg_ℤ e) z ≡ true → le_z z e ≡ true → nat_abs z ≤ nat_abs e
between-abs e z h h1 = grind (arith, ints)

-- ---- two numbers that fit a width

-- their bits differ where one of them is less than the other
pub differ : {w : Width} (a b : ℤ) → SFits w a → SFits w b → not (eqb (of_z w a) (of_z w b)) ≡ (lt_z b a || lt_z a b)
differ a b h h1 = grind (arith, ints)
