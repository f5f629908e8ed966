-- A number as a sign and a size. Sums of one sign, products by a natural and the machine's quotient and remainder keep the sign and act on the size, so that a
-- fact of ℤ about them is one of ℕ; and a number no larger than one that fits fits too.
use Prim.Native.Nat.{ℕ, ◌+◌, ◌*◌, ◌/◌, ◌%◌, ◌^◌, ◌≤◌, ◌<◌}
use mathlib.Core.Path.{◌≡◌}
use mathlib.Core.Bool.{Bool, not, cond}
use Rattle.std.proofs.lemmas.Int.{ints}
use native.Mathlib.Omega.{arith}
use lib.IntN.{ℤ, pos, neg_ℤ, nat_abs, ◌+ℤ◌, ◌*ℤ◌}
use lib.Signed.{non_neg, quot_z, rem_z}
use mir.Syntax.{Width}
use mir.Val.{SFits, hbits}

abbrev pub signed : Bool → ℕ → ℤ
signed s n = cond s (neg_ℤ (pos n)) (pos n)

-- the sign that a number has
abbrev pub sign : ℤ → Bool
sign z = not (non_neg z)

pub of_size : (z : ℤ) → z ≡ signed (sign z) (nat_abs z)
of_size z = grind (arith, ints)

-- ---- operations

pub add-signed : (s : Bool) (a b : ℕ) → signed s a +ℤ signed s b ≡ signed s (a + b)
add-signed s a b = grind (arith, ints)

pub mul-signed : (k : ℕ) (s : Bool) (a : ℕ) → pos k *ℤ signed s a ≡ signed s (k * a)
mul-signed k s a = grind (arith, ints)

pub quot-signed : (s : Bool) (a d : ℕ) → quot_z (signed s a) (pos d) ≡ signed s (a / d)
quot-signed s a d = grind (arith, ints)

pub rem-signed : (s : Bool) (a d : ℕ) → rem_z (signed s a) (pos d) ≡ signed s (a % d)
rem-signed s a d = grind (arith, ints)

-- ---- the range of a width

pub size_fits : {w : Width} (s : Bool) (n : ℕ) → n < 2 ^ hbits w → SFits w (signed s n)
size_fits s n h = grind (arith, ints)

pub smaller-fits : {w : Width} (s : Bool) (a b : ℕ) → b ≤ a → SFits w (signed s a) → SFits w (signed s b)
smaller-fits s a b h h1 = grind (arith, ints)
