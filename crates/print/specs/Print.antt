-- The lines that the symbol program prints, when they are, and what a lent buffer holds afterwards.
-- (RULES 7.2, 7.3)
use Rattle.std.specs.Prelude.{ℕ, ◌+◌, ◌≡◌, List, [], ◌∷◌, ◌++◌, cond, leb, ℤ, pos, length}
use Rattle.std.proofs.lemmas.List.Edits.{sets}
use Rattle.print.specs.Number.{text_of}

-- What follows a number: a comma, 44, or a line feed, 10, after the last.
abbrev pub ends_with : List ℤ → ℕ
ends_with [] = 10
ends_with (z ∷ zs) = 44

-- Numbers as a line.
unfoldable pub line_text : List ℤ → List ℕ
line_text [] = []
line_text (z ∷ zs) = text_of z ++ (ends_with zs ∷ line_text zs)

-- "end," and "refused,", each with its numbers.
unfoldable pub end_of : ℕ → ℕ → ℤ → List ℕ
end_of samples symbols t = 101 ∷ 110 ∷ 100 ∷ 44 ∷ line_text (pos samples ∷ pos symbols ∷ t ∷ [])

unfoldable pub refused_of : ℕ → ℕ → List ℕ
refused_of number line = 114 ∷ 101 ∷ 102 ∷ 117 ∷ 115 ∷ 101 ∷ 100 ∷ 44 ∷ line_text (pos number ∷ pos line ∷ [])

-- A text, where `room` bytes from a place on are among so many; else nothing.
unfoldable pub roomed : ℕ → ℕ → ℕ → List ℕ → List ℕ
roomed room bytes at text = cond (leb (at + room) bytes) text []

-- A text put into a buffer: its bytes are set one after the other from a place on, no other place changes, and the answer is the place behind it.
pub record Put (text out : List ℕ) (at r : ℕ) (left : List ℕ) : Type 0 where
  pub end : r ≡ at + length text
  pub bytes : left ≡ sets out at text
