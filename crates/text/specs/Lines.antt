-- A line: where it ends, its fields, and what reading them answers and leaves.
-- (RULES 7.1)
use Rattle.std.specs.Prelude.{ℕ, max, ◌≡◌, List, [], ◌∷◌, ◌++◌, cond, ltb, eqb, ℤ, pos, length, Result, Ok, Err}
use Rattle.std.proofs.lemmas.List.Edits.{sets}
use Rattle.text.specs.declared.LineEnd.{LineEnd}
use Rattle.text.specs.declared.LineEnd.TheVariants.{After, TooLong, Open}
use Rattle.kinds.specs.declared.Kind.{Kind}
use Rattle.kinds.specs.declared.FieldError.{FieldError}
use Rattle.kinds.specs.declared.FieldError.TheVariants.{Malformed, OutOfRange}
use Rattle.text.specs.Fields.{field_of}

-- ---- where a line ends

-- The bytes before the first x, or all where there is none.
unfoldable pub before : ℕ → List ℕ → List ℕ
before x [] = []
before x (b ∷ t) = cond (eqb b x) [] (b ∷ before x t)

-- The bytes before the first line feed, 10, are a line; more than 1,024 are too long for one, whether or not a line feed comes later.
unfoldable pub line_end_of : List ℕ → LineEnd
line_end_of l =
    let n : ℕ = length (before 10 l) in
    cond (ltb 1024 n) TooLong (cond (ltb n (length l)) (After n) Open)

-- Where a line has ended, or is too long, more bytes behind change nothing: how the input is cut has no part in it.
abbrev pub Settled : Type 0
Settled = (a b : List ℕ) → (line_end_of a ≡ Open → ⊥) → line_end_of (a ++ b) ≡ line_end_of a

-- ---- its fields

-- A line, separated at each comma, 44: always one field more than it has commas.
abbrev pub onto : ℕ → List (List ℕ) → List (List ℕ)
onto b [] = (b ∷ []) ∷ []
onto b (f ∷ fs) = (b ∷ f) ∷ fs

unfoldable pub split_fields : List ℕ → List (List ℕ)
split_fields [] = [] ∷ []
split_fields (b ∷ t) = cond (eqb b 44) ([] ∷ split_fields t) (onto b (split_fields t))

-- ---- what reading answers

-- The fault of a field: 2 wrong form, 1 outside the type, 0 none. The value of one that has a fault is 0.
abbrev pub fault_of : {A : Type 0} → Result A FieldError → ℕ
fault_of (Ok v) = 0
fault_of (Err OutOfRange) = 1
fault_of (Err Malformed) = 2

abbrev pub value_of : Result ℤ FieldError → ℤ
value_of (Ok z) = z
value_of (Err e) = pos 0

-- The worst fault of the fields, each read as its type. A field without a type is of wrong form, and so is a type without a field.
unfoldable pub worst : List Kind → List (List ℕ) → ℕ
worst [] [] = 0
worst [] (f ∷ fs) = 2
worst (k ∷ ks) [] = 2
worst (k ∷ ks) (f ∷ fs) = max (fault_of (field_of k f)) (worst ks fs)

-- The refusal's number: 18 for wrong form, before 19.
abbrev pub number_of : ℕ → ℕ
number_of fault = cond (eqb fault 0) 0 (cond (eqb fault 1) 19 18)

-- The values of the fields before the first that is of wrong form or has no type, 0 for one outside its type.
unfoldable pub values : List Kind → List (List ℕ) → List ℤ
values [] fs = []
values (k ∷ ks) [] = []
values (k ∷ ks) (f ∷ fs) = cond (eqb (fault_of (field_of k f)) 2) [] (value_of (field_of k f) ∷ values ks fs)

-- Reading a line: its number, and the values set in the lent places from the first on. Values past the last place are dropped, the other places stay.
pub record Reading (kinds : List Kind) (line : List ℕ) (out : List ℤ) (r : ℕ) (left : List ℤ) : Type 0 where
  pub number : r ≡ number_of (worst kinds (split_fields line))
  pub places : left ≡ sets out 0 (values kinds (split_fields line))
