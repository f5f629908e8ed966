-- Reading and printing a number are inverse: what is printed of an integer reads as that integer, and what reads as an integer is what is printed of it.
-- With 2^63 below and 2^63 − 1 above these are the integers of 64 bits; it holds of any two ends.
use Rattle.std.specs.Prelude.{ℕ, ◌≤◌, ◌<◌, ◌≡◌, List, ℤ, pos, negsuc}
use Rattle.print.specs.Number.{text_of}
use Rattle.text.specs.Fields.{field_in, holds}

-- An integer from `down` below zero to `up`.
abbrev pub Within : ℕ → ℕ → ℤ → Type 0
Within down up (pos n) = n ≤ up
Within down up (negsuc n) = n < down

abbrev pub Inverse : Type 0
Inverse =
    (down up : ℕ) (z : ℤ) (l : List ℕ) →
    (Within down up z → field_in down up (text_of z) ≡ holds z) × (field_in down up l ≡ holds z → text_of z ≡ l)
