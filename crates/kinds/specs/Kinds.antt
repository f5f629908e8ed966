-- The kinds of fields, and which numbers each takes of those that a place can hold: the signed ones of 64 bits.
-- (RULES 8.1)
use Rattle.std.specs.Prelude.{ℕ, ◌<◌, ◌≡◌, Bool, true, false, cond, ◌&&◌, List, [], ◌∷◌, eqb, length, get_or, ℤ, pos, negsuc}
use Rattle.arith.specs.Arith.{within}
use Rattle.kinds.specs.declared.FieldError.{FieldError}
use Rattle.kinds.specs.declared.FieldError.TheVariants.{Malformed, OutOfRange}
use Rattle.kinds.specs.declared.Kind.{Kind}
use Rattle.kinds.specs.declared.Kind.TheVariants.{U8, U32, I16, I32, I64, Count}

-- The number at a place; 0 where there is none.
abbrev pub at : List ℤ → ℕ → ℤ
at l n = get_or l n (pos 0)

-- ---- kinds of fields

-- The kinds are unsigned of 8 and of 32 bits, signed of 16, of 32 and of 64 bits, and counts. A count is unsigned of 64 bits, and a place takes the
-- lower half of these. So a state that has counted more than 2^63 - 1 samples has no places, and no call hands one out: 12 refuses the block that would
-- lead to it.

-- The least number of a kind.
abbrev pub least_of : Kind → ℤ
least_of U8 = pos 0
least_of U32 = pos 0
least_of I16 = negsuc 32767
least_of I32 = negsuc 2147483647
least_of I64 = negsuc 9223372036854775807
least_of Count = pos 0

-- The greatest.
abbrev pub most_of : Kind → ℤ
most_of U8 = pos 255
most_of U32 = pos 4294967295
most_of I16 = pos 32767
most_of I32 = pos 2147483647
most_of I64 = pos 9223372036854775807
most_of Count = pos 9223372036854775807

-- A number is one of its kind.
abbrev pub is_kind : Kind → ℤ → Bool
is_kind kind z = within (least_of kind) (most_of kind) z

-- Places, one kind after the other: there is a place for each kind, and its number is one of it.
unfoldable pub are_kinds : List Kind → List ℤ → Bool
are_kinds [] l = true
are_kinds (kind ∷ kinds) [] = false
are_kinds (kind ∷ kinds) (z ∷ l) = is_kind kind z && are_kinds kinds l

-- 18: there is a place for each kind, and no other. 19: each takes a number of its kind. 0 where both hold.
-- (RULES 8.1; 7.1 has the same two numbers for a line with another number of fields and for a value outside its type.)
abbrev pub places_number : List Kind → List ℤ → ℕ
places_number kinds l = cond (eqb (length l) (length kinds)) (cond (are_kinds kinds l) 0 19) 18

-- Why fields cannot be read, by these numbers.
abbrev pub field_number : FieldError → ℕ
field_number Malformed = 18
field_number OutOfRange = 19

-- There is a place n, and its number is one of a kind.
pub record KindAt (kind : Kind) (l : List ℤ) (n : ℕ) : Type 0 where
  pub inside : n < length l
  pub is : is_kind kind (at l n) ≡ true
