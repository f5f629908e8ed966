-- What a replay program does: it takes the rows of its input one after another, and counts which answers agree.
use Rattle.std.specs.Prelude.{◌≡◌, ℕ, Bool, false, cond, nat_le, List, [], ◌∷◌, ◌++◌, length, take, ℤ, Option, None, Some, codes, decimal}
use Rattle.std.specs.Io.KnownBytes.{Consumes, IsAtEnd}
use Rattle.rows.specs.declared.Tally.{Tally}
use Rattle.rows.specs.declared.program.Report.{Report}
use Rattle.rows.specs.Rows.{ReadRow, read, begun, with_byte, one_counted}

-- The numbers of a row; none where it has more than there are places for.
abbrev pub numbers_of : ℕ → List ℤ → Option (List ℤ)
numbers_of columns row = cond (nat_le columns (length row)) (Some (take columns row)) None

-- A row that goes on, or begins where the one before has ended.
abbrev pub opened : ReadRow → ReadRow
opened s = read (begun s.cursor) s.row

-- With all of some bytes, over the ends of rows.
unfoldable pub after : ReadRow → List ℕ → ReadRow
after s [] = s
after s (b ∷ bs) = after (with_byte (opened s) b) bs

-- A row, where it has ended, and then others.
abbrev pub with_ended : ReadRow → List (Option (List ℤ)) → List (Option (List ℤ))
with_ended s rows = cond s.cursor.ended (numbers_of s.cursor.column s.row ∷ rows) rows

-- The rows that end within some bytes, in order.
unfoldable pub rows_in : ReadRow → List ℕ → List (Option (List ℤ))
rows_in s [] = []
rows_in s (b ∷ bs) = with_ended (with_byte (opened s) b) (rows_in (with_byte (opened s) b) bs)

-- A replay, and what was counted of its answers.
pub record Counted (R : Type 0) : Type 0 where
  pub replay : R
  pub tally : Tally

abbrev pub counted : {R : Type 0} → R → Tally → Counted R
counted replay tally = record { replay = replay; tally = tally }

abbrev pub answer_counted : Tally → Option Bool → Tally
answer_counted t None = t
answer_counted t (Some same) = one_counted t same

-- What a row leaves of a replay, and its answer. One that has more numbers than there are places for is an answer that differs.
abbrev pub Answers : {R : Type 0} → (R → List ℤ → Option Bool → R → Type 0) → R → Option (List ℤ) → Option Bool → R → Type 0
Answers gives s None answer t = (answer ≡ Some false) × (t ≡ s)
Answers gives s (Some numbers) answer t = gives s numbers answer t

-- Taking a row: its answer is counted, where it has one.
abbrev pub Takes : {R : Type 0} → (R → List ℤ → Option Bool → R → Type 0) → Counted R → Option (List ℤ) → Counted R → Type 0
Takes gives s row t = (answer : Option Bool) × Answers gives s.replay row answer t.replay × (t.tally ≡ answer_counted s.tally answer)

-- An input was read to its end, and this holds of the bytes that it gave.
abbrev pub ReadWhole : Option (List ℕ) → Option (List ℕ) → (List ℕ → Type 0) → Type 0
ReadWhole old new P = (bytes : List ℕ) × Consumes old new bytes × IsAtEnd new × P bytes

-- What a report says: how many answers were compared and how many differ, and where one does, the first. Its own words stand between the numbers.
abbrev pub report_text : Report → List ℕ
report_text r =
    decimal r.tally.rows ++ (codes " answers " ++ (r.of.now ++ (codes " compared, "
    ++ (decimal r.tally.wrong ++ (codes " differ" ++ first_text r.tally.first)))))
  where
    first_text : Option ℕ → List ℕ
    first_text None = []
    first_text (Some row) = codes ", the first " ++ (r.first.now ++ (codes " " ++ decimal row))
