-- Between -2^62 and 2^62 twice the float is in the range of its cast, and the half and the rest of that make the nearest whole number (Halved).
-- What is left has no fraction or is no number, and is cast as it is.
use Rattle.std.proofs.Common.{◌≡◌, T, sym, ◌∙◌, subst, arith, w64, to_z, of_z}
use Rattle.std.proofs.lemmas.Int.{ints}
use lib.Ieee.{of_bits, neg, to_signed}
use Rattle.floats.specs.Whole.{round_away}
use Rattle.arith.proofs.Bits.{held}
use Rattle.arith.proofs.Signs.{signed}
use Rattle.floats.proofs.Halved.{Halved, halved_of, stays-above, stays-below}
use Rattle.floats.proofs.round_i64.Goals.{else-x-via-then-x+else-x-2, else-x-via-else-x}
use Rattle.floats.proofs.round_i64.Goals as goal

-- the two tests say that doubling is exact
halved : (c : goal.Then-x-2) → Halved c.args.x
unfolding of_bits neg
halved c = halved_of c.args.x (subst T (sym c.well_formed.0.1) tt) c.if-x.true c.if-x-2.true

pub truncating_f64_to_i64-twice-requires-clause-lower_bound : goal.truncating_f64_to_i64-twice-requires-clause-lower_bound
truncating_f64_to_i64-twice-requires-clause-lower_bound c = (halved c).doubled.low

pub truncating_f64_to_i64-twice-requires-clause-upper_bound : goal.truncating_f64_to_i64-twice-requires-clause-upper_bound
truncating_f64_to_i64-twice-requires-clause-upper_bound c = (halved c).doubled.high

pub returns-then-x-2 : goal.returns-then-x-2
returns-then-x-2 c =
    let h = halved c.before in
    let cast = c.truncating_f64_to_i64-twice in
    let is : to_z w64 (of_z w64 cast.result) ≡ signed h.sign h.twice = held w64 cast.result cast.type_inv ∙ cast.ensures ∙ h.doubled.cut in
    rw is (grind (arith, ints)) ∙ h.nearest

pub returns : goal.returns
unfolding of_bits neg
returns c =
    let x = c.args.x in
    let f = subst T (sym c.well_formed.0.1) tt in
    let same : to_signed 63 x ≡ to_signed 63 (round_away x) = elim c.else-x.branch [
      | else-x-via-then-x+else-x-2 w ↦ stays-above x f w.if-x-2.false
      | else-x-via-else-x w ↦ stays-below x f w.if-x.false
    ] in
    rw (← same) (grind (arith, ints))
