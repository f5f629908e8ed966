-- The bits of a signed number, read back. A signed local holds bits: the machine writes z as `of_z w z` and reads `to_z w` of that, which is z
-- where z fits the width. A proof takes these towers off first, and reasons about z alone.
use Prim.Native.Nat.{ℕ, ◌^◌, ◌≤◌, ◌<◌}
use mathlib.Core.Path.{◌≡◌}
use Rattle.std.proofs.lemmas.Int.{ints}
use native.Mathlib.Omega.{arith}
use lib.Dec.{T, leb}
use lib.IntN.{ℤ, pos, nat_abs}
use lib.Signed.{mag, shr_z}
use mir.Syntax.{Width, w32, w64}
use mir.Val.{Fits, SFits, hbits, to_z, of_z}

-- a number that is small enough fits, and one that fits is small
pub sfit : {w : Width} {z : ℤ} → nat_abs z < 2 ^ hbits w → SFits w z
sfit h = grind (arith, ints)

pub fit-abs : {w : Width} {z : ℤ} → SFits w z → nat_abs z ≤ 2 ^ hbits w
fit-abs h = grind (arith, ints)

-- a shift right stays within the width
pub shr-fits : {w : Width} (m : ℕ) {z : ℤ} → SFits w z → SFits w (shr_z z m)
shr-fits m h = grind (arith, ints)

-- read back at its own width, from a bound (`nat_abs z` does not determine z, so z is explicit) or from what a call or a read tells
pub back : (w : Width) (z : ℤ) → nat_abs z < 2 ^ hbits w → to_z w (of_z w z) ≡ z
back w z h = grind (arith, ints)

pub held : (w : Width) (z : ℤ) → mag z < 2 ^ hbits w → to_z w (of_z w z) ≡ z
held w z h = grind (arith, ints)

pub widened : {w : Width} (w' : Width) {z : ℤ} → T (leb (hbits w) (hbits w')) → SFits w z → to_z w' (of_z w' (to_z w (of_z w z))) ≡ z
widened w' h h1 = grind (arith, ints)

-- an unsigned number as a signed one of twice the width, as `i64::from` gives it of a `u32`: it is the same
pub whole : {z : ℤ} (n : ℕ) → z ≡ pos n → Fits w32 n → to_z w64 (of_z w64 z) ≡ pos n
whole n is h = rw is (back w64 (pos n) (omega (arith, h.fits)))
