-- The path's arithmetic over ℤ, where nothing overflows. The functions of src/ are proved equal to these on every input.
-- `shr_z z m` of the kit divides z by m and rounds down, also below zero: with m = 2 ^ s it is the shift right by s.
use Rattle.std.specs.Prelude.{ℕ, zero, suc, ◌+◌, ◌-◌, ◌*◌, ◌/◌, ◌%◌, ◌^◌, Bool, cond, ◌&&◌, ◌||◌, eqb, ltb, ℤ, pos, negsuc, neg_ℤ, ◌+ℤ◌, ◌-ℤ◌}
use Rattle.std.specs.Int.Signed.{lt_z, le_z, shr_z}
use Rattle.arith.specs.declared.Saturated.{Saturated}

-- R(v, s): v divided by 2^s and rounded to the nearest whole number, a half upward; nothing is done at s = 0.
-- (RULES 2.2)
unfoldable pub round_shift : ℤ → ℕ → ℤ
round_shift v s = cond (eqb s 0) v (shr_z (v +ℤ pos (2 ^ (s - 1))) (2 ^ s))

-- v held between lo and hi: the end that it passes, or v itself.
-- (RULES 2.3)
unfoldable pub clamp_z : ℤ → ℤ → ℤ → ℤ
clamp_z v lo hi = cond (lt_z v lo) lo (cond (lt_z hi v) hi v)

-- v held to what 16 bits signed can say, which reaches one further down than up.
-- (RULES 2.4)
unfoldable pub sat16_z : ℤ → ℤ
sat16_z v = clamp_z v (negsuc 32767) (pos 32767)

-- That changes v: what it is held to lies above v or below it.
-- (RULES 2.4)
unfoldable pub sat16_changes : ℤ → Bool
sat16_changes v = lt_z v (sat16_z v) || lt_z (sat16_z v) v

-- Both of it.
abbrev pub saturated_to : ℤ → Saturated
saturated_to v = record { value = sat16_z v; changed = sat16_changes v }

-- What is left of v after whole multiples of m, from 0 to m - 1 also where v is below zero.
-- (RULES 2.5)
unfoldable pub mod_z : ℤ → ℕ → ℕ
mod_z (pos n) m = n % m
mod_z (negsuc n) m = m - 1 - n % m

-- The number from -2^31 to 2^31 - 1 that differs from v by a multiple of 2^32.
-- (RULES 2.5)
unfoldable pub wrap_i32 : ℤ → ℤ
wrap_i32 v = pos (mod_z (v +ℤ pos (2 ^ 31)) (2 ^ 32)) -ℤ pos (2 ^ 31)

-- The whole number nearest to a / d, for d above 0, and of two that are as near the larger: the whole part, and one more where at least a half is left.
-- (RULES 2.6)
unfoldable pub nearest_up : ℕ → ℕ → ℕ
nearest_up a d = a / d + cond (ltb (2 * (a % d)) d) 0 1

-- The whole number nearest to n / d, and of two that are as near the one farther from zero: below zero, that of the size, with a minus. Nothing is nearest to
-- n / 0, and the answer is 0.
-- (RULES 2.6)
unfoldable pub nearest_away : ℤ → ℕ → ℤ
nearest_away n zero = pos 0
nearest_away (pos n) (suc d) = pos (nearest_up n (suc d))
nearest_away (negsuc n) (suc d) = neg_ℤ (pos (nearest_up (suc n) (suc d)))

-- v lies from lo to hi.
abbrev pub within : ℤ → ℤ → ℤ → Bool
within lo hi v = le_z lo v && le_z v hi

-- v where it is from lo to hi, and 0 elsewhere.
unfoldable pub or_zero : ℤ → ℤ → ℤ → ℤ
or_zero v lo hi = cond (lt_z v lo) (pos 0) (cond (lt_z hi v) (pos 0) v)

-- v as a number of a narrower type, 16 or 32 bits signed: itself where the type has it, and 0 elsewhere. A caller that has looked before loses nothing.
unfoldable pub narrow_i16 : ℤ → ℤ
narrow_i16 v = or_zero v (negsuc 32767) (pos 32767)

unfoldable pub narrow_i32 : ℤ → ℤ
narrow_i32 v = or_zero v (negsuc 2147483647) (pos 2147483647)
