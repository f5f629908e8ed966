-- The machine divides sizes and keeps n's sign (Signs), so the code's sum is the quotient of the sizes and what twice their rest gives, which is the nearest
-- whole number (Nearest). That is no larger than n, so it fits.
use Prim.Native.Nat.{ℕ, ◌+◌, ◌*◌, ◌/◌, ◌%◌, ◌^◌, ◌<◌}
use mathlib.Core.Path.{◌≡◌, refl, sym, ◌∙◌, subst}
use mathlib.Core.Bool.{Bool}
use native.Mathlib.Nat.{mod-lt, div-le_self}
use native.Mathlib.Omega.{arith}
use lib.IntN.{ℤ, pos, nat_abs, ◌+ℤ◌, ◌*ℤ◌}
use lib.Signed.{quot_z, rem_z}
use mir.Syntax.{w32, w64}
use mir.Val.{Fits, SFits}
use mir.Facts.{to_z-of_z}
use Rattle.arith.specs.Arith.{nearest_away}
use Rattle.arith.proofs.Bits.{whole}
use Rattle.arith.proofs.Signs.{signed, sign, of_size, add-signed, mul-signed, quot-signed, rem-signed, size_fits, smaller-fits}
use Rattle.arith.proofs.Nearest.{no-larger, nearest-signed}
use Rattle.arith.proofs.Widths.{in64}
use Rattle.arith.proofs.divide_nearest.Goals as goal

-- what the code computes of n and d, read back from its bits
abbrev computed : ℤ → ℤ → ℤ
computed n d = in64 (quot_z n d) +ℤ in64 (quot_z (in64 (pos 2 *ℤ in64 (rem_z n d))) d)

-- of a number with the sign s and the size a
of_sizes : (s : Bool) (a d : ℕ) → 0 < d → d < 2 ^ 32 → SFits w64 (signed s a) → computed (signed s a) (pos d) ≡ signed s (a / d + 2 * (a % d) / d)
of_sizes s a d some small f =
    let rest : 2 * (a % d) < 2 ^ 63 = omega (arith, mod-lt a some) in
    let more : 2 * (a % d) / d < 2 ^ 63 = omega (arith, div-le_self (2 * (a % d)) d) in
    simp (quot-signed s a d, rem-signed s a d, to_z-of_z (smaller-fits s a (a / d) (div-le_self a d) f), to_z-of_z (size_fits {w = w64} s (a % d) (omega arith)))
    (simp (mul-signed 2 s (a % d), to_z-of_z (size_fits {w = w64} s (2 * (a % d)) rest))
    (simp (quot-signed s (2 * (a % d)) d, to_z-of_z (size_fits {w = w64} s (2 * (a % d) / d) more)) (add-signed s (a / d) (2 * (a % d) / d))))

computed_is : (n : ℤ) (m : ℕ) {d : ℤ} → d ≡ pos m → SFits w64 n → Fits w32 m → 0 < m → computed (in64 n) (in64 d) ≡ signed (sign n) (nat_abs n / m + 2 * (nat_abs n % m) / m)
computed_is n m is f g some =
    rw (to_z-of_z f, whole m is g) (subst (λ (z : ℤ). computed z (pos m) ≡ signed (sign n) (nat_abs n / m + 2 * (nat_abs n % m) / m)) (sym (of_size n))
    (of_sizes (sign n) (nat_abs n) m some (omega (arith, g.fits)) (subst (SFits w64) (of_size n) f)))

sum_fits : (n : ℤ) (m : ℕ) → SFits w64 n → 0 < m → SFits w64 (signed (sign n) (nat_abs n / m + 2 * (nat_abs n % m) / m))
sum_fits n m f some = smaller-fits (sign n) (nat_abs n) (nat_abs n / m + 2 * (nat_abs n % m) / m) (no-larger (nat_abs n) m some) (subst (SFits w64) (of_size n) f)

-- ---- the goals

pub returns-then-m-eq0 : goal.returns-then-m-eq0
unfolding nearest_away
returns-then-m-eq0 c = rw c.if-m-eq0.true refl

pub overflow_add-result : goal.overflow_add-result
overflow_add-result c =
    let some : 0 < c.args.m = omega arith in
    rw (computed_is c.args.n c.args.m c.from-d.ensures c.ranges.n c.ranges.m some) (sum_fits c.args.n c.args.m c.ranges.n some)

pub returns : goal.returns
returns c =
    let some : 0 < c.args.m = omega arith in
    rw (computed_is c.args.n c.args.m c.from-d.ensures c.ranges.n c.ranges.m some) (to_z-of_z (sum_fits c.args.n c.args.m c.ranges.n some) ∙ nearest-signed c.args.n c.args.m some)
