-- The remainder n differs from v by a multiple of 2^32, and so does the signed number with n's bits, which lies from -2^31 to 2^31 - 1.
-- Only one number there does (Modulus, `wrap-only`).
use Prim.Native.Nat.{ℕ}
use mathlib.Core.Path.{◌≡◌}
use native.Mathlib.Omega.{arith}
use lib.IntN.{ℤ}
use mir.Syntax.{w32}
use mir.Val.{to_z}
use Rattle.std.proofs.lemmas.Int.{to_z-of_z}
use Rattle.arith.specs.Arith.{wrap_i32}
use Rattle.arith.proofs.Modulus.{Modulo, Wrapped, mod-is, wrap-only}
use Rattle.arith.proofs.wrap_i32.Goals as goal

same_bits : (v : ℤ) (n : ℕ) → Modulo v n → Wrapped v (to_z w32 n)
same_bits v n m = record { above = grind arith; below = grind arith; alike = grind arith }

bits_wrapped : (v : ℤ) (n : ℕ) → Modulo v n → to_z w32 n ≡ wrap_i32 v
bits_wrapped v n m = wrap-only v (to_z w32 n) (same_bits v n m)

pub returns : goal.returns
returns c = grind (arith, to_z-of_z, bits_wrapped, mod-is)
