-- `fixed::filter::with_products` meets its contract: a coefficient of 18 bits times a number of 32 is at most 2^48, and what 128 taps have summed at most 2^55.
-- So neither products nor sums leave 64 bits.
use Rattle.std.proofs.Common.{◌≡◌, ◌*◌, ◌^◌, ◌≤◌, ℤ, ◌+ℤ◌, ◌*ℤ◌, nat_abs, arith, w32, w64, SFits, to_z, of_z}
use Rattle.std.proofs.lemmas.Int.{ints}
use Rattle.arith.proofs.Bits.{sfit, back}
use Rattle.arith.proofs.Widths.{in64}
use Rattle.fixed.proofs.RowSums.{product_small}
use Rattle.fixed.proofs.filter.with_products.Goals as goal

module _ {z : ℤ} (c x : ℤ) (e : z ≡ to_z w32 (of_z w32 c)) (h : nat_abs c ≤ 131071) (k : nat_abs x ≤ 2147483648) where
  product_is : in64 z *ℤ in64 x ≡ c *ℤ x
  product_is = rw e (simp (back w32 c (omega arith), back w64 c (omega arith), back w64 x (omega arith)))

  product-fits : SFits w64 (in64 z *ℤ in64 x)
  product-fits = rw product_is (sfit {z = c *ℤ x} (omega (arith, product_small c x h k)))

  module _ (s : ℤ) (b : nat_abs s ≤ 128 * 2 ^ 48) where
    sum_fits : SFits w64 (in64 s +ℤ in64 (in64 z *ℤ in64 x))
    sum_fits = rw product_is (let m = product_small c x h k in grind (arith, ints))

    sum_is : in64 (in64 s +ℤ in64 (in64 z *ℤ in64 x)) ≡ s +ℤ c *ℤ x
    sum_is = rw product_is (omega (arith, ints, product_small c x h k))

pub overflow_mul-result : goal.overflow_mul-result
overflow_mul-result c = let a = c.args in let b = c.requires.c_bound in product-fits a.c a.x c.from-k.ensures b.0 b.1.0

pub overflow_add-result : goal.overflow_add-result
overflow_add-result c = let a = c.args in let b = c.requires.c_bound in sum_fits a.c a.x c.from-k.ensures b.0 b.1.0 a.s.i c.requires.sums_upto.i

pub overflow_mul-result-2 : goal.overflow_mul-result-2
overflow_mul-result-2 c = let a = c.args in let b = c.requires.c_bound in product-fits a.c a.y c.from-k.ensures b.0 b.1.1

pub overflow_add-result-2 : goal.overflow_add-result-2
overflow_add-result-2 c = let a = c.args in let b = c.requires.c_bound in sum_fits a.c a.y c.from-k.ensures b.0 b.1.1 a.s.q c.requires.sums_upto.q

pub returns : goal.returns
returns c =
    let a = c.args in
    let b = c.requires.c_bound in
    let s = c.requires.sums_upto in
    let k = c.from-k.ensures in
    λ t. record { i = sum_is a.c a.x k b.0 b.1.0 a.s.i s.i t; q = sum_is a.c a.y k b.0 b.1.1 a.s.q s.q t }
