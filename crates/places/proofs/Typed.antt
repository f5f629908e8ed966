-- The numbers that the code holds are of their fields' kinds: one that fits its type is of the type's kind, and a count that is small enough for a place is of
-- a count's. So a sheet that the code writes can be read, and a state that it writes is one.
use Rattle.std.proofs.Common.{◌≡◌, true, ℕ, ℤ, pos, ◌≤◌, arith, w8, w16, w32, w64}
use Rattle.std.proofs.lemmas.Int.{ints}
use mir.Val.{Fits, SFits}
use Rattle.kinds.specs.Kinds.{is_kind}
use Rattle.kinds.specs.declared.Kind.TheVariants.{U8, U32, I16, I32, I64, Count}

pub of_u8 : {n : ℕ} → Fits w8 n → is_kind U8 (pos n) ≡ true
of_u8 h = grind (arith, ints)

pub of_u32 : {n : ℕ} → Fits w32 n → is_kind U32 (pos n) ≡ true
of_u32 h = grind (arith, ints)

pub of_i16 : {z : ℤ} → SFits w16 z → is_kind I16 z ≡ true
of_i16 h = grind (arith, ints)

pub of_i32 : {z : ℤ} → SFits w32 z → is_kind I32 z ≡ true
of_i32 h = grind (arith, ints)

pub of_i64 : {z : ℤ} → SFits w64 z → is_kind I64 z ≡ true
of_i64 h = grind (arith, ints)

pub of_count : {n : ℕ} → n ≤ 9223372036854775807 → is_kind Count (pos n) ≡ true
of_count h = grind (arith, ints)

pub ruleset typed = (of_u8, of_u32, of_i16, of_i32, of_i64, of_count)
