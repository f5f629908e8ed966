-- A field: whole numbers in decimal, as lists of bytes, and how one is read as one of the types of crates/kinds.
-- (RULES 7.1)
use Rattle.std.specs.Prelude.{ℕ, ◌+◌, ◌-◌, ◌*◌, ◌^◌, min, List, [], ◌∷◌, Bool, not, ◌&&◌, cond, ltb, eqb, ℤ, pos, neg_ℤ, unsigned_abs, Option, Some, None, Result, Ok, Err}
use Rattle.kinds.specs.Kinds.{least_of, most_of}
use Rattle.kinds.specs.declared.Kind.{Kind}
use Rattle.kinds.specs.declared.FieldError.{FieldError}
use Rattle.kinds.specs.declared.FieldError.TheVariants.{Malformed, OutOfRange}

-- ---- the number that some bytes say, if any, with no limit to its digits

-- A digit is a byte from '0', 48, to '9', 57.
abbrev pub is_digit : ℕ → Bool
is_digit b = not (ltb b 48) && not (ltb 57 b)

-- The bytes that are left, after digits that say v: all have to be digits.
unfoldable pub digits_after : ℕ → List ℕ → Option ℕ
digits_after v [] = Some v
digits_after v (b ∷ t) = cond (is_digit b) (digits_after (v * 10 + (b - 48)) t) None

-- A number that begins with '0' is 0, and nothing follows.
abbrev pub nothing_after_zero : List ℕ → Option ℕ
nothing_after_zero [] = Some 0
nothing_after_zero (b ∷ t) = None

-- The number that has these digits: at least one.
unfoldable pub numeral : List ℕ → Option ℕ
numeral [] = None
numeral (b ∷ t) = cond (eqb b 48) (nothing_after_zero t) (digits_after 0 (b ∷ t))

-- ---- as a type

-- How far a type reaches below and above zero.
abbrev pub down_of : Kind → ℕ
down_of kind = unsigned_abs (least_of kind)

abbrev pub up_of : Kind → ℕ
up_of kind = unsigned_abs (most_of kind)

-- A field of wrong form, one outside its type, and a value.
abbrev pub wrong_form : Result ℤ FieldError
wrong_form = Err Malformed

abbrev pub outside : Result ℤ FieldError
outside = Err OutOfRange

abbrev pub holds : ℤ → Result ℤ FieldError
holds z = Ok z

-- What digits say, up to `up`; and after a minus sign, down to `down` below zero, where 0 is of wrong form.
abbrev pub plain : ℕ → Option ℕ → Result ℤ FieldError
plain up None = wrong_form
plain up (Some n) = cond (ltb up n) outside (holds (pos n))

abbrev pub negative : ℕ → Option ℕ → Result ℤ FieldError
negative down None = wrong_form
negative down (Some n) = cond (eqb n 0) wrong_form (cond (ltb down n) outside (holds (neg_ℤ (pos n))))

-- A field with these ends, whatever its number of digits. '-' is 45.
unfoldable pub field_in : ℕ → ℕ → List ℕ → Result ℤ FieldError
field_in down up [] = wrong_form
field_in down up (b ∷ t) = cond (eqb b 45) (negative down (numeral t)) (plain up (numeral (b ∷ t)))

unfoldable pub field_of : Kind → List ℕ → Result ℤ FieldError
field_of kind l = field_in (down_of kind) (up_of kind) l

-- ---- what the code keeps of a number while it reads: no more than 2^63 + 1, which is past the ends of every type

abbrev pub kept : Option ℕ → Option ℕ
kept None = None
kept (Some n) = Some (min n (2 ^ 63 + 1))
