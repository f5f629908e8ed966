-- `registers::correct::next_gain` meets its contract: an unsigned number of 32 bits and an error of 32 bits, shifted right, add up within 64 bits.
-- A clamp between 0 and 2^24 - 1 is an unsigned number of 32 bits, so the cast loses nothing.
use Prim.Native.Nat.{◌^◌, ◌<◌}
use mathlib.Core.Path.{◌≡◌, ap}
use native.Mathlib.Omega.{arith}
use lib.Dec.{lit<}
use lib.IntN.{pos, nat_abs, ◌+ℤ◌}
use lib.Signed.{shr_z}
use mir.Syntax.{w64}
use Rattle.arith.specs.Arith.{clamp_z}
use Rattle.arith.proofs.Magnitude.{abs-add, abs-shr}
use Rattle.arith.proofs.Bits.{fit-abs, back, held, widened, whole}
use Rattle.arith.proofs.Widths.{in64, clamp-unsigned}
use Rattle.registers.specs.Correct.{next_gain}
use Rattle.registers.proofs.correct.next_gain.Goals as goal

-- what `clamp` answers
clamped : (c : goal.After-clamp)
    → let a = c.args in in64 c.clamp.result ≡ clamp_z (pos a.acc +ℤ shr_z a.err (2 ^ a.p.agc_shift)) (pos 0) (pos 16777215)
clamped c =
    let a = c.args in
    let by = 2 ^ a.p.agc_shift in
    let moved = shr_z a.err by in
    let shifted : c.shift_right.result ≡ moved = simp (c.from-2.ensures, c.from-3.ensures, widened w64 tt c.ranges.err) at c.shift_right.ensures in
    let most : nat_abs (pos a.acc +ℤ c.shift_right.result) < 2 ^ 63 =
    rw shifted (omega (arith, c.ranges.acc, fit-abs c.ranges.err, abs-add (pos a.acc) moved, abs-shr a.err by)) in
    let sum = simp (whole a.acc c.from.ensures c.ranges.acc, held w64 c.shift_right.result c.shift_right.type_inv) at c.clamp.ensures in
    let told : c.clamp.result ≡ _ = simp (back w64 (pos a.acc +ℤ c.shift_right.result) most) at sum in
    simp (held w64 c.clamp.result c.clamp.type_inv) (simp shifted at told)

pub overflow_cast-result : goal.overflow_cast-result
overflow_cast-result c = rw (clamped c) (clamp-unsigned _ 0 16777215 (record { fits = lit< tt }) (record { fits = lit< tt }))

pub returns : goal.returns
unfolding next_gain
returns c = ap nat_abs (clamped c)
