-- The library's clamp makes the same choice where the ends are in order, and what lies between them is a number of 16 bits.
-- The bits of two numbers differ where the numbers do (Tested, `differ`).
use native.Mathlib.Omega.{arith}
use mathlib.Core.Path.{◌≡◌, ap, ◌∙◌}
use mathlib.Core.Bool.{◌||◌}
use lib.IntN.{ℤ, pos, negsuc}
use lib.Signed.{lt_z}
use mir.Syntax.{w16, w64}
use mir.Val.{SFits}
use mir.Facts.{sfits_widen, to_z-of_z}
use Rattle.std.specs.Int.{int_max, int_min}
use Rattle.std.proofs.lemmas.Int.{ints}
use Rattle.arith.specs.Arith.{clamp_z, sat16_z, sat16_changes}
use Rattle.arith.proofs.Held.{sat16-fits}
use Rattle.arith.proofs.Tested.{differ}
use Rattle.arith.proofs.Widths.{narrowed}
use Rattle.arith.proofs.sat16.Goals as goal

clamped : (v : ℤ) → int_max (negsuc 32767) (int_min v (pos 32767)) ≡ sat16_z v
unfolding clamp_z sat16_z
clamped v = grind (arith, ints)

pub returns : goal.returns
unfolding sat16_changes
returns c =
    let v = c.args.v in
    let r = c.clamp-held.result in
    let is : r ≡ sat16_z v = (simp (to_z-of_z c.ranges.v) at c.clamp-held.ensures.value) ∙ clamped v in
    let fits : SFits w16 r = rw is (sat16-fits v) in
    let value = narrowed tt fits ∙ is in
    let changed = differ r v (sfits_widen {w' = w64} tt fits) c.ranges.v ∙ ap (λ (z : ℤ). lt_z v z || lt_z z v) is in
    λ i. record { value = value i; changed = changed i }
