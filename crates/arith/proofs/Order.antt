-- ℤ for `omega`, which reads only ℕ. A number z is pos_part z - neg_part z, one of the two being 0: sums, tests, ranges and shifts become linear facts about
-- pos_part and neg_part, and an equation or an order of ℤ follows from one of ℕ.
use Prim.Native.Nat.{ℕ, suc, ◌+◌, ◌^◌, ◌≤◌, ◌<◌}
use mathlib.Core.Path.{◌≡◌}
use mathlib.Core.Bool.{true}
use Rattle.std.proofs.lemmas.Int.{ints}
use native.Mathlib.Omega.{arith}
use lib.Dec.{T}
use lib.IntN.{ℤ, pos, negsuc, neg_ℤ, nat_abs, ◌+ℤ◌, ◌-ℤ◌}
use lib.Signed.{non_neg, lt_z, le_z}
use mir.Syntax.{Width}
use mir.Val.{SFits, Fits, hbits, bits}
use Rattle.arith.specs.Arith.{clamp_z}

abbrev pub pos_part : ℤ → ℕ
pos_part (pos n) = n
pos_part (negsuc n) = 0

abbrev pub neg_part : ℤ → ℕ
neg_part (pos n) = 0
neg_part (negsuc n) = suc n

pub abs-pn : (z : ℤ) → nat_abs z ≡ pos_part z + neg_part z
abs-pn z = grind (arith, ints)

-- ---- sums

pub add-pn : (a b : ℤ) → pos_part (a +ℤ b) + (neg_part a + neg_part b) ≡ neg_part (a +ℤ b) + (pos_part a + pos_part b)
add-pn a b = grind (arith, ints)

pub neg-pos_part : (a : ℤ) → pos_part (neg_ℤ a) ≡ neg_part a
neg-pos_part a = grind (arith, ints)

pub neg-neg_part : (a : ℤ) → neg_part (neg_ℤ a) ≡ pos_part a
neg-neg_part a = grind (arith, ints)

pub minus-pn : (a b : ℤ) → pos_part (a -ℤ b) + (neg_part a + pos_part b) ≡ neg_part (a -ℤ b) + (pos_part a + neg_part b)
minus-pn a b = grind (arith, ints)

-- ---- tests: what one says, and when it says it

pub lt-pn : (a b : ℤ) → lt_z a b ≡ true → pos_part a + neg_part b < pos_part b + neg_part a
lt-pn a b h = grind (arith, ints)

pub le-pn : (a b : ℤ) → le_z a b ≡ true → pos_part a + neg_part b ≤ pos_part b + neg_part a
le-pn a b h = grind (arith, ints)

pub pn-le : (a b : ℤ) → pos_part a + neg_part b ≤ pos_part b + neg_part a → le_z a b ≡ true
pn-le a b h = grind (arith, ints)

-- ---- equations

pub eq-pn : (a b : ℤ) → pos_part a + neg_part b ≡ pos_part b + neg_part a → a ≡ b
eq-pn a b h = grind (arith, ints)

-- ---- a clamp lies between its ends, if they are in order

pub record Between (lo hi z : ℤ) : Type 0 where
  pub low : le_z lo z ≡ true
  pub high : le_z z hi ≡ true

pub clamp-between : (v lo hi : ℤ) → le_z lo hi ≡ true → Between lo hi (clamp_z v lo hi)
unfolding clamp_z
clamp-between v lo hi h = record { low = grind (arith, ints); high = grind (arith, ints) }

-- a number between the ends already is left as it is
pub clamp-inside : (v lo hi : ℤ) → pos_part lo + neg_part v ≤ pos_part v + neg_part lo → pos_part v + neg_part hi ≤ pos_part hi + neg_part v → clamp_z v lo hi ≡ v
unfolding clamp_z
clamp-inside v lo hi h h1 = grind (arith, ints)

-- between two numbers that are not below zero, as one that is not
pub between-nat : (lo hi : ℕ) (z : ℤ) → Between (pos lo) (pos hi) z → (lo ≤ nat_abs z) × (nat_abs z ≤ hi)
between-nat lo hi z h = (grind (arith, ints), grind (arith, ints))

-- ---- the range of a width

pub fit-pn : {w : Width} {z : ℤ} → SFits w z → (pos_part z < 2 ^ hbits w) × (neg_part z ≤ 2 ^ hbits w)
fit-pn {w} {z} h = (grind (arith, ints), grind (arith, ints))

pub pn-fit : {w : Width} {z : ℤ} → pos_part z < 2 ^ hbits w + neg_part z → neg_part z ≤ 2 ^ hbits w + pos_part z → SFits w z
pn-fit {w} {z} h h1 = grind (arith, ints)

-- what a cast to an unsigned type asks of a number that is not below zero
pub unsign : (w : Width) (z : ℤ) → neg_part z ≤ pos_part z → pos_part z < 2 ^ bits w + neg_part z → T (non_neg z) × Fits w (nat_abs z)
unsign w z h h1 = (grind (arith, ints), grind (arith, ints))
