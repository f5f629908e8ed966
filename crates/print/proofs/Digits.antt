-- A number's digits, from the last to the first: std too puts the last digit behind those of the tenth part, so a number is printed as std prints it.
use mathlib.Core.Path.{◌≡◌, refl, ap}
use mathlib.Core.List.{List, [], ◌∷◌, ◌++◌}
use Prim.Native.Nat.{ℕ, zero, suc, ◌+◌, ◌/◌, ◌%◌, ◌^◌, ◌≤◌, ◌<◌}
use native.Mathlib.Decide.{dec_le}
use native.Mathlib.Omega.{arith}
use lib.IntN.{ℤ, pos, negsuc}
use lib.Signed.{mag}
use borrow.Author.Tests.{lt-ltb, le-ltb}
use Rattle.std.specs.Fmt.{decimal as std_decimal, signed_decimal}
use Rattle.std.proofs.lemmas.Fmt.{AppendsLastDigit, decimal_from_appends, length-decimal-le_succ}
use Rattle.print.specs.Number.{digits_of, decimal, text_of}

-- `more` is only to be large enough.
enough : (f g n : ℕ) → n < f → n < g → digits_of f n ≡ digits_of g n
unfolding digits_of
enough zero g n a b = absurd (omega arith)
enough (suc f) zero n a b = absurd (omega arith)
enough (suc f) (suc g) n a b = elim (dec_le 10 n) [
  | yes t ↦ rw (le-ltb n 10 t) (ap (λ (l : List ℕ). l ++ ((48 + n % 10) ∷ [])) (enough f g (n / 10) (omega arith) (omega arith)))
  | no t ↦ let u : n < 10 = omega arith in rw (lt-ltb n 10 u) refl
]

pub one-digit : (n : ℕ) → n < 10 → decimal n ≡ (48 + n) ∷ []
unfolding decimal digits_of
one-digit n h = rw (lt-ltb n 10 h)

pub more-digits : (n : ℕ) → 10 ≤ n → decimal n ≡ decimal (n / 10) ++ ((48 + n % 10) ∷ [])
unfolding decimal digits_of
more-digits n h = rw (le-ltb n 10 h) (ap (λ (l : List ℕ). l ++ ((48 + n % 10) ∷ [])) (enough n (suc (n / 10)) (n / 10) (omega arith) (omega arith)))

-- ---- as std prints it

appends : AppendsLastDigit digits_of
unfolding digits_of
appends = record { one = λ k n h. rw (lt-ltb n 10 h) refl; more = λ k n h. rw (le-ltb n 10 h) refl }

pub is_decimal : (n : ℕ) → n < 2 ^ 64 → decimal n ≡ std_decimal n
unfolding decimal
is_decimal n h = decimal_from_appends digits_of appends (suc n) n h (omega (arith, length-decimal-le_succ n h))

pub is_text : (z : ℤ) → mag z < 2 ^ 63 → text_of z ≡ signed_decimal z
unfolding text_of
is_text (pos n) h = is_decimal n (omega arith)
is_text (negsuc n) h = ap (λ (l : List ℕ). 45 ∷ l) (is_decimal (suc n) (omega arith))
