-- R of s places is the upper half of what a shift by s - 1 leaves (Rounding, `round-halves`), and that half is no larger, so it fits.
-- Past 63 places R of any 64-bit number is 0.
use Prim.Native.Nat.{◌-◌, ◌^◌}
use mathlib.Core.Path.{sym}
use native.Mathlib.Omega.{arith}
use mir.Facts.{to_z-of_z}
use Rattle.arith.specs.Arith.{round_shift}
use Rattle.arith.proofs.Bits.{shr-fits}
use Rattle.arith.proofs.Rounding.{upper_fits, round-halves, round-far}
use Rattle.arith.proofs.round_shift.Goals as goal

pub returns-in-0 : goal.returns-in-0
unfolding round_shift
returns-in-0 c = simp (to_z-of_z c.ranges.v, c.in-0.is)

pub returns-in-1-to-63 : goal.returns-in-1-to-63
returns-in-1-to-63 c =
    let v = c.args.v in
    let s = c.args.s in
    let f = shr-fits (2 ^ (s - 1)) c.ranges.v in
    simp (to_z-of_z c.ranges.v, to_z-of_z f, to_z-of_z (shr-fits 2 f), to_z-of_z (upper_fits f)) (sym (round-halves v s (omega arith)))

pub returns-in_default : goal.returns-in_default
returns-in_default c = sym (round-far {k = 63} c.args.v c.args.s c.ranges.v.sfits (omega arith))
