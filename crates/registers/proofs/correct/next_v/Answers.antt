-- `registers::correct::next_v` meets its contract: an integrator of at most 2^61 moves by at most 2^46, so the sum fits 64 bits.
-- The ends that it is clamped to are at most 2^47.
use Prim.Native.Nat.{◌^◌, ◌<◌}
use mathlib.Core.Path.{◌≡◌, ◌∙◌}
use native.Mathlib.Omega.{arith}
use lib.IntN.{nat_abs, ◌+ℤ◌, ◌*ℤ◌, +ℤ_idl}
use mir.Syntax.{w16, w32, w64}
use mir.Val.{SFits}
use mir.Facts.{to_z-of_z}
use Rattle.arith.specs.Arith.{round_shift}
use Rattle.arith.proofs.Magnitude.{abs-add}
use Rattle.arith.proofs.Bits.{sfit, back, held}
use Rattle.registers.specs.Correct.{next_v}
use Rattle.registers.proofs.Integrator.{scaled-abs, low_fits, end_fits}
use Rattle.registers.proofs.correct.next_v.Goals as goal
use Rattle.registers.proofs.correct.next_v.Goals.{After-scaled}

ki-fits : (c : goal.After-scaled) → SFits w16 c.args.p.ki
ki-fits c = record { sfits = search c depth 40 }

-- what `scaled` answers
scaled-is : (c : goal.After-scaled) → let a = c.args in c.scaled.result ≡ round_shift (a.p.ki *ℤ a.e) a.p.ki_shift
scaled-is c = simp (to_z-of_z (ki-fits c), to_z-of_z c.ranges.e) at c.scaled.ensures

sum-abs : (c : goal.After-scaled) → nat_abs (c.args.v +ℤ c.scaled.result) < 2 ^ 63
sum-abs c =
    let a = c.args in
    let moved = round_shift (a.p.ki *ℤ a.e) a.p.ki_shift in
    rw (scaled-is c) (omega (arith, c.requires, abs-add a.v moved, scaled-abs a.p.ki_shift (ki-fits c) c.ranges.e))

pub overflow_add-v : goal.overflow_add-v
overflow_add-v c = simp (to_z-of_z c.ranges.v, held w64 c.scaled.result c.scaled.type_inv) (sfit (sum-abs c))

pub returns : goal.returns
unfolding next_v
returns c =
    let f : SFits w32 c.args.p.integrator_max = record { sfits = search c depth 40 } in
    let a = (goal.at.returns c).After-scaled in
    let ends = simp (c.integrator_end-end.ensures, to_z-of_z f, to_z-of_z (end_fits f), +ℤ_idl, to_z-of_z (low_fits f), to_z-of_z c.ranges.v, held w64 c.scaled.result c.scaled.type_inv) at c.clamp.ensures in
    let told : c.clamp.result ≡ _ = simp (back w64 (c.args.v +ℤ c.scaled.result) (sum-abs a)) at ends in
    held w64 c.clamp.result c.clamp.type_inv ∙ simp (scaled-is a) at told
