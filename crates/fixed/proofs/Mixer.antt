-- The mixer's numbers: the table's entry at a step is the wheel's there, and products of 16-bit numbers are at most 2^30, so that a sum or a difference of two
-- of them fits 64 bits and is no more than `without_scale` takes.
use Rattle.std.proofs.Common.{◌≡◌, ℕ, zero, suc, ◌+◌, ◌%◌, ◌^◌, ◌<◌, ◌≤◌, List, get_or, ℤ, pos, ◌+ℤ◌, ◌-ℤ◌, ◌*ℤ◌, nat_abs, ap, ◌∙◌, arith, w16, w64, SFits}
use Rattle.arith.proofs.Magnitude.{abs-minus}
use Rattle.arith.proofs.Bits.{sfit, back}
use Rattle.arith.proofs.Widths.{wide, in64, product-abs, product_is, sum-abs, sum_is}
use Rattle.tables.specs.Wheel.{wheel, entries, wheel_table}
use Rattle.tables.proofs.Wheel.{wheel-mod}

-- ---- the wheel's entries in its table

-- the entries from step k on: the i-th is the wheel's at k + i
entry : (k n i j : ℕ) → i < n → k + i ≡ j → get_or (entries k n) i (pos 0) ≡ wheel j
unfolding entries
entry k zero i j h e = absurd (omega arith)
entry k (suc n) zero j h e = let f : k ≡ j = omega arith in ap wheel f
entry k (suc n) (suc i) j h e = entry (suc k) n i j (omega arith) (omega arith)

-- a table that is the wheel's, at a step
pub at_step : (t : List ℤ) (k : ℕ) → t ≡ wheel_table → get_or t (k % 1024) (pos 0) ≡ wheel k
unfolding wheel_table
at_step t k e = ap (λ (l : List ℤ). get_or l (k % 1024) (pos 0)) e ∙ entry 0 1024 (k % 1024) (k % 1024) (omega arith) (omega arith) ∙ wheel-mod k

-- ---- sums and differences of two products

module _ {a b c d : ℤ} (f : SFits w16 a) (g : SFits w16 b) (h : SFits w16 c) (k : SFits w16 d) where
  pub sum-small : nat_abs (in64 (in64 (wide a *ℤ wide b) +ℤ in64 (wide c *ℤ wide d))) ≤ 2 ^ 32
  sum-small = rw (sum_is f g h k) (omega (arith, sum-abs f g h k))

  difference-abs : nat_abs (a *ℤ b -ℤ c *ℤ d) ≤ 2 ^ 31
  difference-abs = omega (arith, abs-minus (a *ℤ b) (c *ℤ d), product-abs f g, product-abs h k)

  pub difference-fits : SFits w64 (in64 (wide a *ℤ wide b) -ℤ in64 (wide c *ℤ wide d))
  difference-fits = rw (product_is f g, product_is h k) (sfit {z = a *ℤ b -ℤ c *ℤ d} (omega (arith, difference-abs)))

  pub difference-is : in64 (in64 (wide a *ℤ wide b) -ℤ in64 (wide c *ℤ wide d)) ≡ a *ℤ b -ℤ c *ℤ d
  difference-is = rw (product_is f g, product_is h k) (back w64 (a *ℤ b -ℤ c *ℤ d) (omega (arith, difference-abs)))

  pub difference-small : nat_abs (in64 (in64 (wide a *ℤ wide b) -ℤ in64 (wide c *ℤ wide d))) ≤ 2 ^ 32
  difference-small = rw difference-is (omega (arith, difference-abs))
