-- Whole numbers in decimal, as lists of bytes, and how they are written.
-- (RULES 7.1)
use Rattle.std.specs.Prelude.{ℕ, zero, suc, ◌+◌, ◌/◌, ◌%◌, List, [], ◌∷◌, ◌++◌, cond, ltb, ℤ, pos, negsuc}

-- The digits of n: a digit alone, or the digits of its tenth part and then the last. `more` counts down, and `suc n` is always enough.
unfoldable pub digits_of : ℕ → ℕ → List ℕ
digits_of zero n = []
digits_of (suc more) n = cond (ltb n 10) ((48 + n) ∷ []) (digits_of more (n / 10) ++ ((48 + n % 10) ∷ []))

unfoldable pub decimal : ℕ → List ℕ
decimal n = digits_of (suc n) n

-- An integer: its digits, after '-', 45, where it is negative.
unfoldable pub text_of : ℤ → List ℕ
text_of (pos n) = decimal n
text_of (negsuc n) = 45 ∷ decimal (suc n)
