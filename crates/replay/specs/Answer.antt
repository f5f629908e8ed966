-- Refusals as the numbers of a row.
use Rattle.std.specs.Prelude.{ℕ, ◌-◌, Bool, cond, nat_lt, List, [], ◌∷◌, ℤ, pos, negsuc}
use Rattle.std.specs.Cmp.Lexicographic.{pointwise}
use Rattle.std.specs.Ordering.{int_eq}
use Rattle.params.specs.declared.ParamError.{ParamError}
use Rattle.params.specs.declared.ParamError.TheVariants.{Taps, BankLength, Coefficient, CoefficientSum, DetectorTaps, PeriodBounds, Range, AgcShift, Delay}
use Rattle.params.specs.Refusal.{bank_number, field_number}
use Rattle.replay.specs.declared.answer.Answer.{Answer}
use Rattle.replay.specs.declared.answer.Answer.TheVariants.{Alone, One, Three}

-- The number of 64 bits signed that has the bits of an unsigned one: rows have no other.
unfoldable pub signed_bits : ℕ → ℤ
signed_bits n = cond (nat_lt n 9223372036854775808) (pos n) (negsuc (18446744073709551615 - n))

-- The refusal of a sheet: its number, and its values in the order in which they are carried.
abbrev pub of_error : ParamError → Answer
of_error Taps = Alone 1
of_error BankLength = Alone 2
of_error (Coefficient bank phase value) = Three 3 (pos (bank_number bank)) (signed_bits phase) value
of_error (CoefficientSum bank phase sum) = Three 4 (pos (bank_number bank)) (signed_bits phase) (signed_bits sum)
of_error (DetectorTaps bank) = One 5 (pos (bank_number bank))
of_error PeriodBounds = Alone 6
of_error (Range field) = One 7 (pos (field_number field))
of_error AgcShift = Alone 8
of_error Delay = Alone 29

-- An answer's numbers: the refusal's own, and those that it carries.
abbrev pub numbers_of : Answer → List ℤ
numbers_of (Alone n) = pos n ∷ []
numbers_of (One n a) = pos n ∷ a ∷ []
numbers_of (Three n a b c) = pos n ∷ a ∷ b ∷ c ∷ []

-- Whether a row's numbers are an answer's: as many, and each the same.
abbrev pub is_answer : Answer → List ℤ → Bool
is_answer a ns = pointwise int_eq ns (numbers_of a)
