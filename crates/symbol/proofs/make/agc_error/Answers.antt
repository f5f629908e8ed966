-- `symbol::make::agc_error` meets its contract: a power of 64 bits, shifted right by 12 places, is far from the ends of 64 bits.
-- Its difference from an unsigned number of 32 bits is too, and `wrap_i32` takes any.
use Prim.Native.Nat.{◌^◌, ◌<◌}
use mathlib.Core.Path.{◌≡◌, ap, ◌∙◌}
use native.Mathlib.Omega.{arith}
use lib.IntN.{ℤ, pos, nat_abs, ◌-ℤ◌}
use lib.Signed.{shr_z}
use mir.Syntax.{w32, w64}
use mir.Val.{Fits, SFits}
use mir.Facts.{to_z-of_z}
use Rattle.arith.specs.Arith.{wrap_i32}
use Rattle.arith.proofs.Magnitude.{abs-minus, abs-shr-pow}
use Rattle.arith.proofs.Bits.{fit-abs, back, held, whole, shr-fits}
use Rattle.symbol.specs.Make.{gain_error}
use Rattle.symbol.proofs.make.agc_error.Goals as goal

pub returns : goal.returns
unfolding gain_error
returns c =
    let target : Fits w32 c.args.p.agc_target = search c depth 40 in
    let power : SFits w64 c.dot.result = record { sfits = c.dot.type_inv } in
    let shifted : ℤ = shr_z c.dot.result 4096 in
    let most : nat_abs (pos c.args.p.agc_target -ℤ shifted) < 2 ^ 63 =
    omega (arith, target.fits, fit-abs power, abs-shr-pow c.dot.result 12, abs-minus (pos c.args.p.agc_target) shifted) in
    let lack = simp (to_z-of_z power, to_z-of_z (shr-fits 4096 power), whole c.args.p.agc_target c.from.ensures target) at c.wrap_i32.ensures in
    let told : c.wrap_i32.result ≡ _ = simp (back w64 (pos c.args.p.agc_target -ℤ shifted) most) at lack in
    held w32 c.wrap_i32.result c.wrap_i32.type_inv ∙ told ∙ ap (λ (z : ℤ). wrap_i32 (pos c.args.p.agc_target -ℤ shr_z z 4096)) c.dot.ensures
