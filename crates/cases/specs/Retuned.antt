-- A state in the middle of a run, and the sheets that it is asked for, for the cases of a retune.
-- (RULES 9, the retune)
use Rattle.std.specs.Prelude.{ℕ, [], ◌∷◌, pos, List, ℤ}
use Rattle.params.specs.declared.Params.{Params}
use Rattle.params.specs.Judge.{Sheet}
use Rattle.state.specs.declared.Frontend.{Frontend}
use Rattle.state.specs.Start.{fresh}
use Rattle.cases.specs.Sheet.{rows, params_with, plain_sheet, sheet}

-- The sheet's state after three samples and two symbols, as the whole case leaves it, but for line and errors, which no retune looks at.
unfoldable pub under_way : Frontend
under_way =
    record (fresh sheet.params) {
      registers = record { nco = 0; t_acc = pos 16777216; v = pos 0; period = 33554432; gain_acc = 262144; symbols = 2 };
      head = 1;
      waiting = 2;
      samples = 3;
    }

-- Another nominal period, between the bounds of the sheet.
unfoldable pub other_nominal : Sheet
other_nominal = plain_sheet (params_with 33000000 32883343 34225520)

-- The sheet's fields with a nominal period of this, which is also the least one.
unfoldable pub period_from : ℕ → Params
period_from least = params_with least least 34225520

-- These fields with six taps, and with banks of as many.
unfoldable pub six_taps : Params → Sheet
six_taps p =
    let none : List ℤ = rows 64 (pos 0 ∷ pos 0 ∷ pos 0 ∷ pos 0 ∷ pos 0 ∷ pos 0 ∷ []) in
    record { params = record p { taps = 6 }; h = none; g = none; k = none }
