-- `fixed::filter::unraised` meets its contract: the sums of 64 taps at most stay within 2^56, and so does what is taken off them, so 64 bits hold every number.
use Rattle.std.proofs.Common.{◌≡◌, ℕ, ◌*◌, ◌^◌, ◌≤◌, ℤ, pos, ◌-ℤ◌, ◌*ℤ◌, nat_abs, arith, w32, w64, to_z, of_z}
use Rattle.std.proofs.lemmas.Int.{ints}
use Rattle.arith.proofs.Widths.{in64}
use Rattle.fixed.specs.Inside.{unraised}
use Rattle.fixed.proofs.filter.unraised.Goals as goal

sum_is : (u v : ℕ) {z : ℤ} (c : ℤ) → z ≡ to_z w32 (of_z w32 c) → u ≤ 64 * 2 ^ 50 → v ≤ 64 * 2 ^ 32 → nat_abs c ≤ 64 * 2 ^ 17
    → in64 (in64 (to_z w64 u -ℤ to_z w64 (v * 131072)) -ℤ in64 (in64 z *ℤ pos 2147483648)) ≡ unraised u v c
sum_is u v c e h k l = rw e (omega (arith, ints))

pub returns : goal.returns
returns c =
    let s = c.args.s in
    let r = c.requires in
    let i = sum_is s.i s.line_i s.coefficients c.from-raised.ensures r.i r.line-i r.coefficients in
    let q = sum_is s.q s.line_q s.coefficients c.from-raised.ensures r.q r.line-q r.coefficients in
    λ t. record { i = i t; q = q t }
