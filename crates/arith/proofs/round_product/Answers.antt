-- The product is at most 2^46, so half of 2^62 at most can be added to it within 64 bits.
-- Past 62 places R of such a number is 0.
use Prim.Native.Nat.{ℕ, ◌*◌, ◌/◌, ◌%◌, ◌^◌, ◌≤◌}
use mathlib.Core.Path.{◌≡◌, sym, ap, ◌∙◌}
use native.Mathlib.Omega.{arith}
use lib.IntN.{ℤ, pos, nat_abs, ◌+ℤ◌, ◌*ℤ◌}
use lib.Pow.{pow_mono}
use lib.Signed.{shr_z}
use mir.Syntax.{w16, w32, w64}
use mir.Val.{SFits, to_z}
use mir.Facts.{to_z-of_z, to_z_pos}
use Rattle.arith.proofs.Magnitude.{mag-abs, abs-mul-le, abs-add}
use Rattle.arith.proofs.Bits.{sfit, fit-abs, back, shr-fits, widened}
use Rattle.arith.proofs.Rounding.{round-added, round-far}
use Rattle.arith.proofs.Widths.{in64}
use Rattle.arith.proofs.round_product.Goals as goal

-- ---- the product

product-abs : {a b : ℤ} → SFits w16 a → SFits w32 b → nat_abs (a *ℤ b) ≤ 2 ^ 46
product-abs {a} {b} f g = abs-mul-le a b (2 ^ 15) (2 ^ 31) (fit-abs f) (fit-abs g)

product-fits : {a b : ℤ} → SFits w16 a → SFits w32 b → SFits w64 (a *ℤ b)
product-fits {a} {b} f g = sfit {z = a *ℤ b} (omega (arith, product-abs f g))

-- ---- half of 2^s

half_is : (s : ℕ) → s ≤ 62 → in64 (shr_z (to_z w64 ((1 * 2 ^ s) % 18446744073709551616)) 2) ≡ pos (2 ^ s / 2)
half_is s h =
    let most : 2 ^ s ≤ 2 ^ 62 = pow_mono h in
    let e : (1 * 2 ^ s) % 18446744073709551616 ≡ 2 ^ s = omega (arith, most) in
    rw (ap (to_z w64) e ∙ to_z_pos w64 (omega (arith, most))) (back w64 (pos (2 ^ s / 2)) (omega (arith, most)))

sum_fits : {a b : ℤ} → SFits w16 a → SFits w32 b → (s : ℕ) → s ≤ 62 → SFits w64 (a *ℤ b +ℤ pos (2 ^ s / 2))
sum_fits {a} {b} f g s h =
    let most : 2 ^ s ≤ 2 ^ 62 = pow_mono h in
    sfit {z = a *ℤ b +ℤ pos (2 ^ s / 2)} (omega (arith, abs-add (a *ℤ b) (pos (2 ^ s / 2)), product-abs f g, most))

-- ---- the goals

pub returns-then-s-gt62 : goal.returns-then-s-gt62
returns-then-s-gt62 c =
    let p = c.args.a *ℤ c.args.b in
    sym (round-far {k = 62} p c.args.s (omega (arith, mag-abs p, product-abs c.ranges.a c.ranges.b)) c.if-s-gt62.true)

pub overflow_add-result : goal.overflow_add-result
overflow_add-result c =
    let f = c.ranges.a in
    let g = c.ranges.b in
    simp (c.from.ensures, c.from-2.ensures, widened w64 tt f, widened w64 tt g, to_z-of_z (product-fits f g), half_is c.args.s c.if-s-gt62.false) (sum_fits f g c.args.s c.if-s-gt62.false)

pub returns : goal.returns
returns c =
    let f = c.ranges.a in
    let g = c.ranges.b in
    let s = c.args.s in
    let sum = sum_fits f g s c.if-s-gt62.false in
    simp (c.from.ensures, c.from-2.ensures, widened w64 tt f, widened w64 tt g, to_z-of_z (product-fits f g), half_is s c.if-s-gt62.false)
    (simp (to_z-of_z sum, to_z-of_z (shr-fits (2 ^ s) sum)) (round-added (c.args.a *ℤ c.args.b) s))
