-- Lines from their parts: a row is its first number, what follows it and the row of the others.
-- The other two lines are a word and a row, whose numbers and commas stand one behind the other.
use Rattle.std.proofs.Common.{◌≡◌, refl, ℕ, suc, ◌+◌, ◌<◌, List, [], ◌∷◌, ◌++◌, append_assoc, ℤ, pos, length, arith, drop, get_or}
use lib.Seq.{drop-cons}
use native.Mathlib.Numerals.{add-one}
use Rattle.print.specs.Number.{decimal, text_of}
use Rattle.print.specs.Print.{ends_with, line_text, end_of, refused_of}

-- ---- rows

-- A comma stands before what is not the last.
comma : (others : List ℤ) (last : ℤ) → ends_with (others ++ (last ∷ [])) ≡ 44
comma [] last = refl
comma (z ∷ others) last = refl

number_before : (z : ℤ) (others : List ℤ) (last : ℤ) → (text_of z ++ (44 ∷ [])) ++ line_text (others ++ (last ∷ [])) ≡ line_text (z ∷ (others ++ (last ∷ [])))
unfolding line_text
number_before z others last = rw (comma others last) (append_assoc (text_of z) (44 ∷ []) (line_text (others ++ (last ∷ []))))

pub number_more : (others : List ℤ) (last : ℤ) (i : ℕ) → i < length others
    → (text_of (get_or others i (pos 0)) ++ (44 ∷ [])) ++ line_text (drop (i + 1) others ++ (last ∷ [])) ≡ line_text (drop i others ++ (last ∷ []))
number_more others last i h = rw (add-one, drop-cons others i (pos 0) h) (number_before (get_or others i (pos 0)) (drop (suc i) others) last)

pub no_numbers : (values : List ℤ) → length values ≡ 0 → line_text values ≡ []
unfolding line_text
no_numbers [] h = refl
no_numbers (z ∷ values) h = absurd (omega arith)

pub last_number : (last : ℤ) → line_text (last ∷ []) ≡ text_of last ++ (10 ∷ [])
unfolding line_text
last_number last = refl

-- ---- the lines from their parts

pub end_parts : (samples symbols : ℕ) (t : ℤ) →
    ((((((101 ∷ 110 ∷ 100 ∷ 44 ∷ []) ++ decimal samples) ++ (44 ∷ [])) ++ decimal symbols) ++ (44 ∷ [])) ++ text_of t) ++ (10 ∷ []) ≡ end_of samples symbols t
unfolding end_of line_text text_of
end_parts samples symbols t = simp append_assoc

pub refused_parts : (number line : ℕ) →
    ((((114 ∷ 101 ∷ 102 ∷ 117 ∷ 115 ∷ 101 ∷ 100 ∷ 44 ∷ []) ++ decimal number) ++ (44 ∷ [])) ++ decimal line) ++ (10 ∷ []) ≡ refused_of number line
unfolding refused_of line_text text_of
refused_parts number line = simp append_assoc
