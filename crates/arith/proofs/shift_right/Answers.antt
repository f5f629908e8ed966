-- A shift makes nothing larger, so its result fits; from 63 places on every number of 64 bits gives what 63 places give (Rounding, `shr-far`).
use Prim.Native.Nat.{◌^◌}
use native.Mathlib.Omega.{arith}
use mir.Facts.{to_z-of_z}
use Rattle.arith.proofs.Rounding.{shr-far}
use Rattle.arith.proofs.Bits.{shr-fits}
use Rattle.arith.proofs.shift_right.Goals as goal

pub returns : goal.returns
returns c =
    let v = c.ranges.v in
    simp (to_z-of_z v, to_z-of_z (shr-fits (2 ^ c.min.result) v)) (grind (arith, shr-far))
