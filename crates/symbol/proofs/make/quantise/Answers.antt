-- `symbol::make::quantise` meets its contract: the ends of the clamp lie within 16 bits, so the cast loses nothing.
-- Of more than 16 bits the clamp changes no number of 16 bits, as that of 16 bits does not: so `below_sign` may stop there.
use Prim.Native.Nat.{ℕ, zero, suc, ◌-◌, ◌*◌, ◌%◌, ◌^◌, ◌≤◌, ◌<◌, min}
use mathlib.Core.Path.{◌≡◌, refl, sym, ap, ◌∙◌}
use mathlib.Core.Bool.{Bool, true, false}
use native.Mathlib.Omega.{arith}
use lib.Dec.{leb}
use lib.IntN.{ℤ, pos, neg_ℤ, ◌-ℤ◌, ◌*ℤ◌, one, +ℤ_idl, *ℤ-one}
use lib.Pow.{pow_pos, pow_mono}
use lib.Signed.{mag}
use mir.Syntax.{w16, w32, w64}
use mir.Val.{SFits, to_z}
use mir.Facts.{to_z-of_z, to_z_pos, sfits_widen}
use borrow.Author.Tests.{leb-true, leb-false}
use Rattle.arith.specs.Arith.{clamp_z, round_shift}
use Rattle.arith.proofs.Magnitude.{clamp-mag}
use Rattle.arith.proofs.Order.{eq-pn, minus-pn, neg-pos_part, neg-neg_part, fit-pn, clamp-inside}
use Rattle.arith.proofs.Bits.{held}
use Rattle.arith.proofs.Rounding.{round-fits}
use Rattle.arith.proofs.Widths.{narrows, narrowed}
use Rattle.symbol.specs.Make.{quantised}
use Rattle.symbol.proofs.make.quantise.Goals as goal

-- ---- the ends

-- by the measure of a width's range, -n counts as n - 1
mag_low : (n : ℕ) → 0 < n → mag (neg_ℤ (pos n)) < n
mag_low zero h = absurd (omega arith)
mag_low (suc n) h = omega arith

module _ (j : ℕ) (h : j ≤ 15) where
  abbrev end : ℕ
  end = 2 ^ j

  end-most : end ≤ 32768
  end-most = pow_mono h

  end_is : to_z w64 ((1 * 2 ^ j) % 18446744073709551616) ≡ pos end
  end_is = let e : (1 * 2 ^ j) % 18446744073709551616 ≡ end = omega (arith, end-most) in ap (to_z w64) e ∙ to_z_pos w64 (omega (arith, end-most))

  high_is : pos end -ℤ pos 1 ≡ pos (end - 1)
  high_is = eq-pn (pos end -ℤ pos 1) (pos (end - 1)) (omega (arith, minus-pn (pos end) (pos 1), pow_pos j))

  low_fits : SFits w16 (neg_ℤ (pos end))
  low_fits = record { sfits = omega (arith, mag_low end (pow_pos j), end-most) }

  high_fits : SFits w16 (pos (end - 1))
  high_fits = record { sfits = omega (arith, pow_pos j, end-most) }

  -- between two numbers of 16 bits
  clamped-fits : (z : ℤ) → SFits w16 (clamp_z z (neg_ℤ (pos end)) (pos (end - 1)))
  clamped-fits z =
      let low : mag (neg_ℤ (pos end)) ≤ 32767 = omega (arith, low_fits) in
      let high : mag (pos (end - 1)) ≤ 32767 = omega (arith, high_fits) in
      let most : mag (clamp_z z (neg_ℤ (pos end)) (pos (end - 1))) ≤ 32767 = clamp-mag z (neg_ℤ (pos end)) (pos (end - 1)) 32767 low high in
      record { sfits = omega arith }

-- ---- more bits than a component has

-- a clamp that reaches past 16 bits changes nothing of them
wide-clamp : (z : ℤ) (n : ℕ) → SFits w16 z → 32768 ≤ n → clamp_z z (neg_ℤ (pos n)) (pos (n - 1)) ≡ z
wide-clamp z n f h =
    let range = fit-pn f in
    clamp-inside z (neg_ℤ (pos n)) (pos (n - 1)) (omega (arith, range, neg-pos_part (pos n), neg-neg_part (pos n))) (omega (arith, range))

any_width : (z : ℤ) (j : ℕ) → SFits w16 z
    → clamp_z z (neg_ℤ (pos (2 ^ min j 15))) (pos (2 ^ min j 15 - 1)) ≡ clamp_z z (neg_ℤ (pos (2 ^ j))) (pos (2 ^ j - 1))
any_width z j f = go (leb j 15) refl
  where
    go : (b : Bool) → leb j 15 ≡ b → clamp_z z (neg_ℤ (pos (2 ^ min j 15))) (pos (2 ^ min j 15 - 1)) ≡ clamp_z z (neg_ℤ (pos (2 ^ j))) (pos (2 ^ j - 1))
    go true t = let e : min j 15 ≡ j = omega (arith, leb-true j 15 t) in rw e refl
    go false t =
        let e : min j 15 ≡ 15 = omega (arith, leb-false j 15 t) in
        let h : 15 ≤ j = omega (arith, leb-false j 15 t) in
        rw e (wide-clamp z 32768 f (omega arith) ∙ sym (wide-clamp z (2 ^ j) f (pow_mono h)))

-- ---- the calls

-- what `clamp` answers, and the bits that the code shifts by
clamped : (c : goal.After-clamp)
    → let j = c.below_sign.result in (j ≤ 15) × (c.clamp.result ≡ clamp_z (round_shift c.args.v c.args.p.q_shift) (neg_ℤ (pos (2 ^ j))) (pos (2 ^ j - 1)))
unfolding one
clamped c =
    let r = c.round_product in
    let j = c.below_sign.result in
    let h : j ≤ 15 = omega (arith, c.below_sign.ensures) in
    let v : ℤ = c.args.v in
    let shift : ℕ = c.args.p.q_shift in
    let whole : r.result ≡ round_shift (v *ℤ pos 1) shift = simp (c.from.ensures, to_z-of_z c.ranges.v, to_z_pos w32 {n = 1} (omega arith)) at r.ensures in
    let rounded : r.result ≡ round_shift v shift = whole ∙ ap (λ (z : ℤ). round_shift z shift) (*ℤ-one v) in
    let ends = simp (held w64 r.result r.type_inv, end_is j h, +ℤ_idl) at c.clamp.ensures in
    let told : c.clamp.result ≡ _ =
    simp (high_is j h, to_z-of_z (sfits_widen {w' = w64} tt (low_fits j h)), to_z-of_z (sfits_widen {w' = w64} tt (high_fits j h))) at ends in
    (h, simp rounded at told)

fits : (c : goal.After-clamp) → SFits w16 c.clamp.result
fits c = rw (clamped c).1 (clamped-fits c.below_sign.result (clamped c).0 _)

pub overflow_cast-result : goal.overflow_cast-result
overflow_cast-result c = narrows tt (fits c)

pub returns : goal.returns
unfolding quantised
returns c =
    let z : ℤ = round_shift c.args.v c.args.p.q_shift in
    narrowed tt (fits c) ∙ (clamped c).1 ∙ ap (λ (j : ℕ). clamp_z z (neg_ℤ (pos (2 ^ j))) (pos (2 ^ j - 1))) c.below_sign.ensures
    ∙ any_width z (c.args.p.bits - 1) (round-fits c.args.p.q_shift c.ranges.v)
