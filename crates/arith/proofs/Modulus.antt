-- Remainders modulo 2^32. The machine's remainder has the sign of its dividend, so it is right or one modulus away; in terms of pos_part and neg_part that is a
-- fact about remainders of naturals, which `omega` decides.
use Prim.Native.Nat.{ℕ, ◌+◌, ◌%◌, ◌^◌, ◌≤◌, ◌<◌}
use mathlib.Core.Path.{◌≡◌}
use Rattle.std.proofs.lemmas.Int.{ints}
use native.Mathlib.Omega.{arith}
use lib.IntN.{ℤ, pos, ◌+ℤ◌, ◌-ℤ◌}
use Rattle.arith.specs.Arith.{mod_z, wrap_i32}
use Rattle.arith.proofs.Order.{pos_part, neg_part, add-pn, minus-pn, eq-pn}

-- ---- unsigned: what mod_z says of v, and that nothing else has it

pub record Modulo (v : ℤ) (n : ℕ) : Type 0 where
  pub small : n < 2 ^ 32
  pub alike : (n + neg_part v) % 2 ^ 32 ≡ pos_part v % 2 ^ 32

pub mod-is : (v : ℤ) → Modulo v (mod_z v (2 ^ 32))
unfolding mod_z
mod-is v = record { small = grind (arith, ints); alike = grind (arith, ints) }

-- ---- signed: the same of wrap_i32

pub record Wrapped (v r : ℤ) : Type 0 where
  pub above : neg_part r ≤ 2 ^ 31 + pos_part r
  pub below : pos_part r < 2 ^ 31 + neg_part r
  pub alike : (pos_part r + neg_part v) % 2 ^ 32 ≡ (neg_part r + pos_part v) % 2 ^ 32

pub wrap-only : (v r : ℤ) → Wrapped v r → r ≡ wrap_i32 v
unfolding wrap_i32
wrap-only v r w =
    let x : ℤ = v +ℤ pos (2 ^ 31) in
    let m : ℕ = mod_z x (2 ^ 32) in
    eq-pn r (pos m -ℤ pos (2 ^ 31)) (omega (arith, mod-is x, add-pn v (pos (2 ^ 31)), minus-pn (pos m) (pos (2 ^ 31))))
