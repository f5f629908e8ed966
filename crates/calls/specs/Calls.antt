-- What the calls of the C interface answer, for any places, banks and buffers. The answers are those of judging, starting, the block, reading, asking,
-- committing, the offset and a design with its sheet; ours is only how they cross: refusals by number alone, sheets as places and states as three slices, and
-- no buffer touched by a call that is refused. (Float samples: crates/input.)
-- (RULES 8.5)
use Rattle.std.specs.Prelude.{ℕ, cond, List, ◌∷◌, ◌++◌, eqb, leb, length, drop, ℤ, pos, Float}
use Rattle.kinds.specs.Answer.{Answer, answered, first_number}
use Rattle.params.specs.declared.Params.{Params}
use Rattle.params.specs.Judge.{Sheet, sheet_of, judged}
use Rattle.offset.specs.Offset.{Parts, offset_of}
use Rattle.design.specs.Refusal.{Answer as Designed, accepted, refused}
use Rattle.design.specs.Design.{sheet_of_design}
use Rattle.state.specs.Start.{Start, start_of}
use Rattle.fixed.specs.Block.{Block, block_of}
use Rattle.state.specs.Read.{Read, read_of}
use Rattle.retune.specs.Retune.{Ask, ask_of, Commit, commit_of}
use Rattle.places.specs.Sheet.{sheet_number, params_at, sheet_numbers}
use Rattle.places.specs.Rates.{design_number, design_at, gains_at}
use Rattle.places.specs.States.{Slices, are_long, state_fits, state_of, numbers_of, StateAnswer, state_answered}

-- The sheet that 18 places and the banks say.
abbrev pub sheet_at : List ℤ → List ℤ → List ℤ → List ℤ → Sheet
sheet_at l h g k = sheet_of (params_at l) h g k

-- Judging: 18 and 19, 1 to 8, then 29.
unfoldable pub judge_number : List ℤ → List ℤ → List ℤ → List ℤ → ℕ
judge_number l h g k = first_number (sheet_number l) (judged (sheet_at l h g k)).number

-- Starting: 18 and 19, 1 to 8, 29, then 9 where the slices for the state are not as long as one.
unfoldable pub start_answer : List ℤ → List ℤ → List ℤ → List ℤ → Slices → StateAnswer
start_answer l h g k state =
    let a : Start = start_of (sheet_at l h g k) in
    state_answered (first_number (sheet_number l) (first_number a.refused.number (cond (are_long state) 0 9))) (numbers_of a.state) state

-- 9 of slices that are no state, after 1 to 8 and 29.
unfoldable pub state_number : Sheet → Slices → ℕ
state_number s state = cond (state_fits state) 0 (first_number (judged s).number 9)

-- What a block answers, and what it leaves in the slices of the state and in the places of the output and of the answer that were lent.
pub record BlockAnswer : Type 0 where
  pub number : ℕ
  pub state : Slices
  pub output : List ℤ
  pub answer : List ℤ

-- A block: 18 and 19, 1 to 8, 29, 9, 10 to 12, then 11 where there are fewer than four places for the answer. How many symbols it wrote, how many pairs it took
-- and how many clips it counted stand in the first three; the others stay as they were.
unfoldable pub block_answer : List ℤ → List ℤ → List ℤ → List ℤ → Slices → List ℤ → List ℤ → List ℤ → BlockAnswer
block_answer l h g k state values out answer =
    let s : Sheet = sheet_at l h g k in
    let b : Block = block_of s (state_of state) values out in
    let room : ℕ = cond (leb 4 (length answer)) 0 11 in
    let n : ℕ = first_number (sheet_number l) (first_number (state_number s state) (first_number b.refused.number room)) in
    cond (eqb n 0)
    (record {
      number = 0;
      state = numbers_of b.state;
      output = b.output;
      answer = pos b.count ∷ pos b.taken ∷ pos b.clips ∷ drop 3 answer;
    })
    (record { number = n; state = state; output = out; answer = answer })

-- Reading: 18 and 19, 1 to 8, 29, 9, then 11 where there are fewer than three places for period, gain and symbols.
unfoldable pub read_answer : List ℤ → List ℤ → List ℤ → List ℤ → Slices → List ℤ → Answer
read_answer l h g k state places =
    let s : Sheet = sheet_at l h g k in
    let a : Read = read_of s (state_of state) in
    answered (first_number (sheet_number l) (first_number (state_number s state) (first_number a.refused.number (cond (leb 3 (length places)) 0 11))))
    (pos a.period ∷ pos a.gain ∷ pos a.symbols ∷ drop 3 places) places

-- Asking: 18 and 19, 1 to 8, 29, 9 of slices that are no state, then what asking refuses of a state, then 11 where there is no place for the ticket.
unfoldable pub ask_answer : List ℤ → List ℤ → List ℤ → List ℤ → Slices → List ℤ → Answer
ask_answer l h g k state places =
    let s : Sheet = sheet_at l h g k in
    let a : Ask = ask_of s (state_of state) in
    answered (first_number (sheet_number l) (first_number (state_number s state) (first_number a.refused.number (cond (leb 1 (length places)) 0 11))))
    (pos a.ticket ∷ drop 1 places) places

-- Committing: 18 and 19, 1 to 8, 29, 9 of slices that are no state, then 29, 9, 27 and 28 of the state. Of its slices the places alone are written.
unfoldable pub commit_answer : ℕ → List ℤ → List ℤ → List ℤ → List ℤ → Slices → Answer
commit_answer ticket l h g k state =
    let s : Sheet = sheet_at l h g k in
    let a : Commit = commit_of s ticket (state_of state) in
    answered (first_number (sheet_number l) (first_number (state_number s state) a.refused.number)) (numbers_of a.state).places state.places

-- The offset of a period: 18 and 19, 1 to 8, 29, 13, then 11 where there is no place for it.
unfoldable pub offset_answer : List ℤ → List ℤ → List ℤ → List ℤ → ℕ → List ℤ → Answer
offset_answer l h g k period places =
    let a : Parts = offset_of (sheet_at l h g k) period in
    answered (first_number (sheet_number l) (first_number a.refused.number (cond (leb 1 (length places)) 0 11))) (a.parts ∷ drop 1 places) places

-- The number of a design's answer, 0 for a sheet.
abbrev pub refused_by : Designed Params → ℕ
refused_by (accepted p) = 0
refused_by (refused r) = r.number

-- What it leaves in places: its sheet in the first 18, and all as it was where there is no sheet.
abbrev pub written_by : Designed Params → List ℤ → List ℤ
written_by (accepted p) places = sheet_numbers p ++ drop 18 places
written_by (refused r) places = places

-- A design and its sheet: 18 and 19, 14 to 17, 1 to 8, then 11 where there are fewer than 18 places for the sheet. 29 comes after 8, and a design's delay
-- never meets it.
unfoldable pub design_answer : List Float → List ℤ → List ℤ → List ℤ → List ℤ → List ℤ → Answer
design_answer rates fields h g k places =
    let a : Designed Params = sheet_of_design (design_at rates fields) (gains_at fields) h g k in
    answered (first_number (design_number rates fields) (first_number (refused_by a) (cond (leb 18 (length places)) 0 11))) (written_by a places) places
