-- A number in a narrower signed type, as the library's `try_from` answers it: the number itself where it lies between the type's ends, an error elsewhere.
-- A number fits a width where it is not below the lower end and not above the upper one.
use Prim.Native.Nat.{◌-◌, ◌^◌}
use mathlib.Core.Path.{◌≡◌}
use native.Mathlib.Omega.{arith}
use lib.IntN.{ℤ, pos, negsuc}
use mir.Syntax.{Width}
use mir.Val.{SFits, hbits}
use Rattle.std.specs.Prelude.{Result, Ok, Err}
use Rattle.std.specs.Result.{OkIff, result_unwrap_or}
use Rattle.std.proofs.lemmas.Int.{ints}
use Rattle.arith.specs.Arith.{or_zero}

abbrev least_of : Width → ℤ
least_of w = negsuc (2 ^ hbits w - 1)

abbrev most_of : Width → ℤ
most_of w = pos (2 ^ hbits w - 1)

pub or_zero-inside : (w : Width) (v : ℤ) → SFits w v → or_zero v (least_of w) (most_of w) ≡ v
unfolding or_zero
or_zero-inside w v f = grind (arith, ints)

pub or_zero-outside : (w : Width) (v : ℤ) → ¬ (SFits w v) → or_zero v (least_of w) (most_of w) ≡ pos 0
unfolding or_zero
or_zero-outside w v f = grind (arith, ints)

pub narrowed : (w : Width) {E : Type 0} (r : Result ℤ E) (v : ℤ) → OkIff r (SFits w v) v → result_unwrap_or r (pos 0) ≡ or_zero v (least_of w) (most_of w)
narrowed w (Ok x) v h = grind (arith, or_zero-inside)
narrowed w (Err e) v h = grind (arith, or_zero-outside)
