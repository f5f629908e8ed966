-- Whose refusal a call hands on: that of the first crate below that refuses, under its own name, with its number and all that it carries. So an error says
-- more than its number, which is all that C gets (Calls): which coefficient was refused, in which bank and row. The order is that of the numbers.
-- (RULES 8.5)
use Rattle.std.specs.Prelude.{ℕ, cond, List, eqb, leb, length, ℤ, Float, Result, Ok, Err}
use Rattle.kinds.specs.Kinds.{field_number}
use Rattle.params.specs.declared.Params.{Params}
use Rattle.params.specs.Refusal.{Refusal, error_refusal}
use Rattle.params.specs.Judge.{Sheet, judged}
use Rattle.offset.specs.Offset.{offset_refusal, offset_of}
use Rattle.design.specs.Refusal.{DesignRefusal, Answer as Designed, accepted, refused, sheet_refusal}
use Rattle.design.specs.Design.{sheet_of_design}
use Rattle.state.specs.Start.{start_of}
use Rattle.state.specs.Check.{frontend_refusal}
use Rattle.state.specs.Read.{read_of}
use Rattle.fixed.specs.Block.{block_of}
use Rattle.retune.specs.Refusal.{retune_refusal}
use Rattle.retune.specs.Retune.{ask_of, commit_of}
use Rattle.places.specs.Refusal.{places_refusal}
use Rattle.places.specs.Sheet.{sheet_number}
use Rattle.places.specs.Rates.{design_number, design_at, gains_at}
use Rattle.places.specs.States.{Slices, are_long, state_fits, state_of, read_state}
use Rattle.calls.specs.Calls.{sheet_at}
use Rattle.calls.specs.declared.refusal.CallError.{CallError}

pub data Source : Type 0 where
  nobody : Source
  of_fields : ℕ → Source
  of_params : Refusal → Source
  of_frontend : Refusal → Source
  of_retune : Refusal → Source
  of_offset : Refusal → Source
  of_design : DesignRefusal → Source
  of_places : ℕ → Source

-- What the code's answer says in these terms.
abbrev pub error_source : CallError → Source
error_source (CallError.Fields e) = of_fields (field_number e)
error_source (CallError.Params e) = of_params (error_refusal e)
error_source (CallError.Frontend e) = of_frontend (frontend_refusal e)
error_source (CallError.Retune e) = of_retune (retune_refusal e)
error_source (CallError.Offset e) = of_offset (offset_refusal e)
error_source (CallError.Design e) = of_design (sheet_refusal e)
error_source (CallError.Places e) = of_places (places_refusal e)

abbrev pub source : {A : Type 0} → Result A CallError → Source
source (Ok _) = nobody
source (Err e) = error_source e

-- One that may refuse, by a number or with what it carries, and who comes behind it.
abbrev pub first_numbered : (ℕ → Source) → ℕ → Source → Source
first_numbered who number behind = cond (eqb number 0) behind (who number)

abbrev pub first_refusing : (Refusal → Source) → Refusal → Source → Source
first_refusing who r behind = cond (eqb r.number 0) behind (who r)

abbrev pub first_designing : Designed Params → Source → Source
first_designing (accepted p) behind = behind
first_designing (refused r) behind = of_design r

-- Slices that are no state: what judging refuses of the sheet, and else 9 of the slices.
abbrev pub state_source : Sheet → Slices → Source → Source
state_source s state behind = cond (state_fits state) behind (first_refusing of_params (judged s) (of_places 9))

-- Too few places for what is answered.
abbrev pub short_source : ℕ → List ℤ → Source
short_source most places = first_numbered of_places (cond (leb most (length places)) 0 11) nobody

unfoldable pub judge_source : List ℤ → List ℤ → List ℤ → List ℤ → Source
judge_source l h g k = first_numbered of_fields (sheet_number l) (first_refusing of_params (judged (sheet_at l h g k)) nobody)

unfoldable pub start_source : List ℤ → List ℤ → List ℤ → List ℤ → Slices → Source
start_source l h g k state =
    first_numbered of_fields (sheet_number l)
    (first_refusing of_params (start_of (sheet_at l h g k)).refused (first_numbered of_places (cond (are_long state) 0 9) nobody))

-- A block and a reading take slices that are no state for a state of zeros, which 9 refuses behind 1 to 8 and 29.
unfoldable pub block_source : List ℤ → List ℤ → List ℤ → List ℤ → Slices → List ℤ → List ℤ → List ℤ → Source
block_source l h g k state values out answer =
    first_numbered of_fields (sheet_number l)
    (first_refusing of_frontend (block_of (sheet_at l h g k) (read_state state) values out).refused (short_source 4 answer))

unfoldable pub read_source : List ℤ → List ℤ → List ℤ → List ℤ → Slices → List ℤ → Source
read_source l h g k state answer =
    first_numbered of_fields (sheet_number l)
    (first_refusing of_frontend (read_of (sheet_at l h g k) (read_state state)).refused (short_source 3 answer))

unfoldable pub ask_source : List ℤ → List ℤ → List ℤ → List ℤ → Slices → List ℤ → Source
ask_source l h g k state answer =
    let s : Sheet = sheet_at l h g k in
    first_numbered of_fields (sheet_number l)
    (state_source s state (first_refusing of_retune (ask_of s (state_of state)).refused (short_source 1 answer)))

unfoldable pub commit_source : ℕ → List ℤ → List ℤ → List ℤ → List ℤ → Slices → Source
commit_source ticket l h g k state =
    let s : Sheet = sheet_at l h g k in
    first_numbered of_fields (sheet_number l)
    (state_source s state (first_refusing of_retune (commit_of s ticket (state_of state)).refused nobody))

unfoldable pub offset_source : List ℤ → List ℤ → List ℤ → List ℤ → ℕ → List ℤ → Source
offset_source l h g k period answer =
    first_numbered of_fields (sheet_number l)
    (first_refusing of_offset (offset_of (sheet_at l h g k) period).refused (short_source 1 answer))

unfoldable pub design_source : List Float → List ℤ → List ℤ → List ℤ → List ℤ → List ℤ → Source
design_source rates fields h g k sheet =
    first_numbered of_fields (design_number rates fields)
    (first_designing (sheet_of_design (design_at rates fields) (gains_at fields) h g k) (short_source 18 sheet))
