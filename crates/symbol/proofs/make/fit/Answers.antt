-- `symbol::make::fit` meets its contract: what 16 bits hold is left as it is and counts for nothing (arith, Held), so the short way answers the same.
-- Where one of the two components does not fit, `clip` answers.
use Prim.Native.Nat.{◌+◌}
use mathlib.Core.Path.{◌≡◌, refl, sym, ap, subst, ◌∙◌}
use mathlib.Core.Bool.{Bool, true, false, not, cond, true≢false}
use lib.IntN.{ℤ}
use mir.Syntax.{w16}
use mir.Val.{SFits}
use mir.Facts.{to_z-of_z}
use Rattle.arith.specs.Arith.{sat16_changes}
use Rattle.arith.proofs.Held.{sat16-fits, unchanged}
use Rattle.arith.proofs.Widths.{narrows, narrowed}
use Rattle.symbol.proofs.make.fit.Goals as goal

-- what a test says where it holds
holds : {r : Bool} {z v : ℤ} → r ≡ not (sat16_changes z) → z ≡ v → r ≡ true → sat16_changes v ≡ false
holds {r} {z} {v} told e passed = go (sat16_changes v) refl
  where
    go : (b : Bool) → sat16_changes v ≡ b → sat16_changes v ≡ false
    go true k = absurd (true≢false (sym passed ∙ told ∙ ap (λ (x : ℤ). not (sat16_changes x)) e ∙ ap not k))
    go false k = k

fits : {v : ℤ} → sat16_changes v ≡ false → SFits w16 v
fits {v} h = subst (SFits w16) (unchanged v h) (sat16-fits v)

pub overflow_cast-result : goal.overflow_cast-result
overflow_cast-result c = narrows tt (fits (holds c.fits_i16.ensures (to_z-of_z c.ranges.i) c.if-fits_i16.true))

pub overflow_cast-result-then-fits_i16-2 : goal.overflow_cast-result-then-fits_i16-2
overflow_cast-result-then-fits_i16-2 c = narrows tt (fits (holds c.fits_i16-then-fits_i16.ensures (to_z-of_z c.ranges.q) c.if-fits_i16-2.true))

pub returns-then-fits_i16-2 : goal.returns-then-fits_i16-2
returns-then-fits_i16-2 c =
    let i = holds c.fits_i16.ensures (to_z-of_z c.ranges.i) c.if-fits_i16.true in
    let q = holds c.fits_i16-then-fits_i16.ensures (to_z-of_z c.ranges.q) c.if-fits_i16-2.true in
    let at-i = narrowed tt (fits i) ∙ sym (unchanged c.args.i i) in
    let at-q = narrowed tt (fits q) ∙ sym (unchanged c.args.q q) in
    λ t. record { output = record { i = at-i t; q = at-q t }; clips = cond (sym i t) 1 0 + cond (sym q t) 1 0 }
