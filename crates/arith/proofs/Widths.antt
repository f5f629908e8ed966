-- Numbers of 16 and 32 bits in 64-bit arithmetic: casts, products, sums of products, and what a clamp leaves.
-- A signed local shows as `to_z w (of_z w z)`, its bits read back (arith, Bits): these laws take such towers off.
use Prim.Native.Nat.{ℕ, ◌^◌, ◌≤◌}
use mathlib.Core.Path.{◌≡◌}
use Rattle.std.proofs.lemmas.Int.{ints}
use native.Mathlib.Omega.{arith}
use lib.Dec.{T, leb}
use lib.IntN.{ℤ, pos, nat_abs, ◌+ℤ◌, ◌*ℤ◌}
use lib.Signed.{non_neg}
use mir.Syntax.{Width, w16, w32, w64}
use mir.Val.{Fits, SFits, hbits, to_z, of_z}
use Rattle.arith.specs.Arith.{clamp_z}
use Rattle.arith.proofs.Magnitude.{abs-add, abs-mul-le}
use Rattle.arith.proofs.Bits.{sfit, fit-abs, back, widened}

-- what 64 bits hold of a number, and of one of 16 bits that is cast to 64
abbrev pub in64 : ℤ → ℤ
in64 z = to_z w64 (of_z w64 z)

abbrev pub wide : ℤ → ℤ
wide z = in64 (to_z w16 (of_z w16 z))

-- ---- a cast from 64 bits to fewer, of a number that fits them

pub narrows : {w : Width} {z : ℤ} → T (leb (hbits w) (hbits w64)) → SFits w z → SFits w (in64 z)
narrows h h1 = grind (arith, ints)

pub narrowed : {w : Width} {z : ℤ} → T (leb (hbits w) (hbits w64)) → SFits w z → to_z w (of_z w (in64 z)) ≡ z
narrowed h h1 = grind (arith, ints)

-- a clamp between two numbers of 32 bits unsigned is one, also where they are not in order
pub clamp-unsigned : (v : ℤ) (lo hi : ℕ) → Fits w32 lo → Fits w32 hi
    → T (non_neg (clamp_z v (pos lo) (pos hi))) × Fits w32 (nat_abs (clamp_z v (pos lo) (pos hi)))
unfolding clamp_z
clamp-unsigned v lo hi f g = (grind (arith, ints), grind (arith, ints))

-- ---- products of two 16-bit numbers

pub product-abs : {a b : ℤ} → SFits w16 a → SFits w16 b → nat_abs (a *ℤ b) ≤ 2 ^ 30
product-abs {a} {b} f g = abs-mul-le a b (2 ^ 15) (2 ^ 15) (fit-abs f) (fit-abs g)

pub product-fits : {a b : ℤ} → SFits w16 a → SFits w16 b → SFits w64 (wide a *ℤ wide b)
product-fits {a} {b} f g = simp (widened w64 tt f, widened w64 tt g) (sfit {z = a *ℤ b} (omega (arith, product-abs f g)))

pub product_is : {a b : ℤ} → SFits w16 a → SFits w16 b → in64 (wide a *ℤ wide b) ≡ a *ℤ b
product_is {a} {b} f g = simp (widened w64 tt f, widened w64 tt g) (back w64 (a *ℤ b) (omega (arith, product-abs f g)))

-- ---- sums of two such products

pub sum-abs : {a b c d : ℤ} → SFits w16 a → SFits w16 b → SFits w16 c → SFits w16 d → nat_abs (a *ℤ b +ℤ c *ℤ d) ≤ 2 ^ 31
sum-abs {a} {b} {c} {d} f g h k = omega (arith, abs-add (a *ℤ b) (c *ℤ d), product-abs f g, product-abs h k)

pub sum_fits : {a b c d : ℤ} → SFits w16 a → SFits w16 b → SFits w16 c → SFits w16 d → SFits w64 (in64 (wide a *ℤ wide b) +ℤ in64 (wide c *ℤ wide d))
sum_fits {a} {b} {c} {d} f g h k = rw (product_is f g, product_is h k) (sfit {z = a *ℤ b +ℤ c *ℤ d} (omega (arith, sum-abs f g h k)))

pub sum_is : {a b c d : ℤ} → SFits w16 a → SFits w16 b → SFits w16 c → SFits w16 d
    → in64 (in64 (wide a *ℤ wide b) +ℤ in64 (wide c *ℤ wide d)) ≡ a *ℤ b +ℤ c *ℤ d
sum_is {a} {b} {c} {d} f g h k = rw (product_is f g, product_is h k) (back w64 (a *ℤ b +ℤ c *ℤ d) (omega (arith, sum-abs f g h k)))
