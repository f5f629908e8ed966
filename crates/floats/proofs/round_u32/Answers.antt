-- The cast reads the same number of the library's rounded float as of the rule's (Rounded). What is done with that number afterwards is left to arithmetic.
use Rattle.std.proofs.Common.{◌≡◌, T, sym, ◌∙◌, subst, arith}
use lib.Ieee.{to_unsigned}
use Rattle.floats.specs.Whole.{round_away}
use Rattle.floats.proofs.Rounded.{rounded_unsigned}
use Rattle.floats.proofs.round_u32.Goals as goal

pub returns : goal.returns
returns c =
    let x = c.args.x in
    let cast = c.saturating_f64_to_u32 in
    let is : cast.result ≡ to_unsigned 32 (round_away x) = rw c.round.ensures at cast.ensures ∙ rounded_unsigned 32 x (subst T (sym c.well_formed.0.1) tt) in
    omega arith
