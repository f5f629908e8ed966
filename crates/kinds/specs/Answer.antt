-- What a function answers that writes to places: a refusal's number, or 0, and what is left in the places.
use Rattle.std.specs.Prelude.{ℕ, cond, List, eqb, ℤ, Result, Ok, Err}

pub record Answer : Type 0 where
  pub number : ℕ
  pub places : List ℤ

-- The places are written where nothing is refused, and stay as they were where something is.
abbrev pub answered : ℕ → List ℤ → List ℤ → Answer
answered number written places = record { number = number; places = cond (eqb number 0) written places }

-- The first of two numbers of refusals, 0 standing for none.
abbrev pub first_number : ℕ → ℕ → ℕ
first_number a b = cond (eqb a 0) b a

-- The number of what a function answers: 0 where it refuses nothing, and else that of the error.
abbrev pub answer_number : {A E : Type 0} → (E → ℕ) → Result A E → ℕ
answer_number number (Ok _) = 0
answer_number number (Err e) = number e
