-- What the next line of the input is, or which number an end of the input has.
-- (RULES 7.2, 7.3)
use Rattle.std.specs.Prelude.{ℕ, Bool, cond, List, ltb, leb, length, Result, Ok, Err}
use Rattle.text.specs.declared.LineEnd.{LineEnd}
use Rattle.text.specs.declared.LineEnd.TheVariants.{After, TooLong, Open}
use Rattle.text.specs.Lines.{line_end_of}
use Rattle.recording.specs.declared.InputError.{InputError}
use Rattle.recording.specs.declared.InputError.TheVariants.{Malformed, Missing}
use Rattle.recording.specs.declared.Next.{Next}
use Rattle.recording.specs.declared.Next.TheVariants.{Line, More, End}

-- Why the input is refused, by number: of wrong form, 18, and missing, 20.
abbrev pub input_number : InputError → ℕ
input_number Malformed = 18
input_number Missing = 20

-- The input ends behind so many bytes of a line. Within the line it is of wrong form. Behind a line feed the line is missing up to line 193; from line 194 on
-- nothing is.
unfoldable pub next_at_end : ℕ → ℕ → Result Next InputError
next_at_end unread line = cond (ltb 0 unread) (Err Malformed) (cond (leb line 193) (Err Missing) (Ok End))

-- The bytes from a line on, as far as they are read, and whether the input ends behind them. Where the line does not end among them it rests on what follows;
-- a line that is too long is of wrong form, whatever follows.
abbrev pub next_at : LineEnd → ℕ → Bool → ℕ → Result Next InputError
next_at (After n) unread over line = Ok (Line n)
next_at TooLong unread over line = Err Malformed
next_at Open unread over line = cond over (next_at_end unread line) (Ok More)

unfoldable pub next_of : List ℕ → Bool → ℕ → Result Next InputError
next_of bytes over line = next_at (line_end_of bytes) (length bytes) over line
