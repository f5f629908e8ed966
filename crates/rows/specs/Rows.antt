-- Numbers and rows as text, and the counts of a replay.
use Rattle.std.specs.Prelude.{ℕ, None, Some, ◌+◌, ◌-◌, ◌*◌, ◌%◌, ◌^◌, Bool, true, false, cond, ◌||◌, List, ℤ, pos, negsuc, ◌-ℤ◌, ◌==◌, nat_lt, slice_set}
use Rattle.rows.specs.declared.Number.{Number}
use Rattle.rows.specs.declared.Cursor.{Cursor}
use Rattle.rows.specs.declared.Tally.{Tally}

-- A number of which nothing is read yet.
abbrev pub no_number : Number
no_number = record { size = 0; minus = false }

-- A number with one more byte of its text: a minus sign, a digit, or a byte that says nothing.
-- Digits past the nineteenth say nothing either.
unfoldable pub digit_added : Number → ℕ → Number
digit_added n b =
    cond (b == 45) (record { size = n.size; minus = true })
    (cond (nat_lt b 48) n
    (cond (nat_lt 57 b) n
    (cond (nat_lt 922337203685477580 n.size) n
    (record { size = n.size * 10 + (b - 48); minus = n.minus }))))

-- The number with its sign, held to 64 bits signed.
unfoldable pub signed_value : Number → ℤ
signed_value n =
    cond n.minus (cond (nat_lt 9223372036854775807 n.size) (negsuc 9223372036854775807) (pos 0 -ℤ pos n.size))
    (cond (nat_lt 9223372036854775807 n.size) (pos 9223372036854775807) (pos n.size))

-- A cursor before the first byte of the first row.
abbrev pub start : Cursor
start = record { column = 0; number = no_number; ended = false }

-- A cursor, and the numbers of the row that it is in.
pub record ReadRow : Type 0 where
  pub cursor : Cursor
  pub row : List ℤ

abbrev pub read : Cursor → List ℤ → ReadRow
read c row = record { cursor = c; row = row }

-- A number ends with a comma, 44, or a line feed, 10.
unfoldable pub ends_number : ℕ → Bool
ends_number b = b == 44 || b == 10

-- With one more byte. A number's end sets its place in the row, where there is one, and counts the column, modulo 2^64. With the line feed the row has ended.
unfoldable pub with_byte : ReadRow → ℕ → ReadRow
with_byte s b =
    let c : Cursor = s.cursor in
    cond (ends_number b)
    (read (record { column = (c.column + 1) % 2 ^ 64; number = no_number; ended = (b == 10) })
    (slice_set s.row c.column (signed_value c.number)))
    (read (record { column = c.column; number = digit_added c.number b; ended = false }) s.row)

-- A cursor that reads on, in a new row where the one before has ended.
abbrev pub begun : Cursor → Cursor
begun c = record { column = cond c.ended 0 c.column; number = c.number; ended = false }

-- Nothing compared yet.
abbrev pub none_counted : Tally
none_counted = record { rows = 0; wrong = 0; first = None }

-- One answer more, modulo 2^64, which no file reaches: the first that differs leaves its row, counted from 1.
unfoldable pub one_counted : Tally → Bool → Tally
one_counted t same =
    let rows : ℕ = (t.rows + 1) % 2 ^ 64 in
    cond same (record { rows = rows; wrong = t.wrong; first = t.first })
    (cond (t.wrong == 0) (record { rows = rows; wrong = 1; first = Some rows })
    (record { rows = rows; wrong = (t.wrong + 1) % 2 ^ 64; first = t.first }))
