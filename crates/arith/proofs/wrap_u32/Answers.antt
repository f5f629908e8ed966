-- The remainder that is never below zero is the rule's, case by case; it is less than 2^32, so the cast loses nothing.
use Prim.Native.Nat.{◌^◌}
use mathlib.Core.Path.{◌≡◌, refl}
use lib.IntN.{ℤ, pos, negsuc}
use native.Mathlib.Omega.{arith}
use Rattle.std.specs.Int.{int_rem_euclid}
use Rattle.std.proofs.lemmas.Int.{to_z-of_z}
use Rattle.arith.specs.Arith.{mod_z}
use Rattle.arith.proofs.wrap_u32.Goals as goal

euclid_is : (v : ℤ) → int_rem_euclid v (pos (2 ^ 32)) ≡ pos (mod_z v (2 ^ 32))
unfolding mod_z
euclid_is (pos n) = refl
euclid_is (negsuc n) = refl

pub returns : goal.returns
returns c = grind (arith, to_z-of_z, euclid_is)
