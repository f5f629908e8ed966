-- `symbol::make::timing_error` meets its contract: the calls take any number of 64 bits, and a clamp to less than 2^23 on either side leaves one of 32 bits.
use Prim.Native.Nat.{◌^◌, ◌≤◌}
use mathlib.Core.Path.{ap, ◌∙◌}
use native.Mathlib.Omega.{arith}
use lib.Dec.{lit≤}
use lib.IntN.{ℤ, pos, negsuc, nat_abs}
use lib.Signed.{shr_z}
use mir.Syntax.{w32, w64}
use mir.Val.{SFits}
use Rattle.arith.specs.Arith.{clamp_z}
use Rattle.arith.proofs.Magnitude.{clamp-abs}
use Rattle.arith.proofs.Bits.{sfit, held}
use Rattle.arith.proofs.Widths.{narrows, narrowed}
use Rattle.symbol.specs.Make.{timing_error}
use Rattle.symbol.proofs.make.timing_error.Goals as goal

fits : (c : goal.After-clamp) → SFits w32 c.clamp.result
fits c =
    let most : nat_abs c.clamp.result ≤ 8388607 = rw c.clamp.ensures (clamp-abs _ (negsuc 8388606) (pos 8388607) 8388607 (lit≤ tt) (lit≤ tt)) in
    sfit {z = c.clamp.result} (omega arith)

pub overflow_cast-result : goal.overflow_cast-result
overflow_cast-result c = narrows tt (fits c)

pub returns : goal.returns
unfolding timing_error
returns c =
    let r = c.shift_right in
    let shifted = held w64 r.result r.type_inv ∙ (simp c.from.ensures at r.ensures)
    ∙ ap (λ (z : ℤ). shr_z z (2 ^ c.args.p.ted_shift)) (held w64 c.dot.result c.dot.type_inv ∙ c.dot.ensures) in
    narrowed tt (fits c) ∙ c.clamp.ensures ∙ ap (λ (z : ℤ). clamp_z z (negsuc 8388606) (pos 8388607)) shifted
