-- `block` meets its contract: what the block answers of the state that was read is answered, where there are places for it. A state that a block leaves fits
-- the slices that it was read from, and its three counts are signed numbers.
use Rattle.std.proofs.Common.{arith, ◌≡◌, ◌∙◌, ap, pos, w64, to_z, length}
use mir.Facts.{to_z_pos}
use borrow.Author.Tests.{le-leb}
use Rattle.kinds.specs.Answer.{answer_number}
use Rattle.params.specs.Refusal.{nothing}
use Rattle.params.specs.Judge.{sheet_of}
use Rattle.fixed.specs.Block.{Block, block_of}
use Rattle.places.specs.Refusal.{places_refusal}
use Rattle.places.specs.States.{slices, read_state, numbers_of, StateAnswer}
use Rattle.calls.specs.Calls.{sheet_at}
use Rattle.calls.proofs.Answers.{block_refused, block_stopped, block_made, block_written}
use Rattle.calls.proofs.Fitting.{taken_small, count_few, clips_few}
use Rattle.calls.proofs.Numbers.{numbered}
use Rattle.calls.proofs.block.Goals.{After-errors-1}
use Rattle.calls.proofs.block.Goals as goal

pub returns-in_err-check_block-clause-answers : goal.returns-in_err-check_block-clause-answers
returns-in_err-check_block-clause-answers c = grind (arith, block_refused)

pub returns-in_err-done-clause-answers : goal.returns-in_err-done-clause-answers
returns-in_err-done-clause-answers c =
    let a = c.args in
    let told = c.in_err-done.ensures ∙ (λ i. block_of (sheet_of (c.in_ok-params.ensures.read i) a.h.now a.g.now a.k.now) (c.read-f.ensures i) a.values.now a.out.now) in
    let stopped = block_stopped _ _ _ _ (slices a.state.now a.line.now a.errors.now) _ _ a.answer.now c.in_ok-params.ensures.refused _ _ _ told in
    grind (arith, stopped)

-- a block that is not refused, of the sheet and of the state that were read
told : (c : After-errors-1) → let a = c.args in let done = c.in_ok-done.done in
    ◌≡◌ {A = Block}
    (record { refused = nothing; state = c.process.new.f; taken = done.taken; count = done.count; clips = done.clips; output = c.process.new.out })
    (block_of (sheet_at a.sheet.now a.h.now a.g.now a.k.now) (read_state (slices a.state.now a.line.now a.errors.now)) a.values.now a.out.now)
told c =
    let a = c.args in
    c.in_ok-done.ensures ∙ (λ i. block_of (sheet_of (c.in_ok-params.ensures.read i) a.h.now a.g.now a.k.now) (c.read-f.ensures i) a.values.now a.out.now)

-- its state is written
left : (c : After-errors-1) → let w = c.write_state in
    ◌≡◌ {A = StateAnswer} (record { number = answer_number places_refusal w.result; state = slices w.new.places w.new.line w.new.errors })
    (record { number = 0; state = numbers_of c.process.new.f })
left c =
    let a = c.args in
    c.write_state.ensures.written ∙ block_written _ _ _ _ (slices a.state.now a.line.now a.errors.now) _ _ _ _ _ _ _ (told c)

pub returns-in_err-write_state : goal.returns-in_err-write_state
returns-in_err-write_state c =
    let written = left (goal.at.returns-in_err-write_state c).After-errors-1 in
    absurd (grind (arith, numbered, written))

-- and so is the answer, which has four places
pub returns-in_err-put : goal.returns-in_err-put
returns-in_err-put c =
    let room = le-leb 3 (length c.args.answer.now) (omega arith) in
    let put = rw room at c.put.ensures in
    absurd (grind (arith, numbered, put))

pub returns-clause-answers : goal.returns-clause-answers
returns-clause-answers c =
    let a = c.args in
    let done = c.in_ok-done.done in
    let s = sheet_at a.sheet.now a.h.now a.g.now a.k.now in
    let lent = slices a.state.now a.line.now a.errors.now in
    let f = read_state lent in
    let block = told (goal.at.returns-clause-answers c).After-errors-1 in
    let written = left (goal.at.returns-clause-answers c).After-errors-1 in
    let made = block_made _ _ _ _ lent _ _ a.answer.now c.in_ok-params.ensures.refused _ _ _ _ _ block c.if-answer-lt4.false in
    let taken : to_z w64 done.taken ≡ pos done.taken =
    to_z_pos w64 (omega (arith, ap (λ (b : Block). b.taken) block, taken_small s f a.values.now a.out.now)) in
    let count : to_z w64 done.count ≡ pos done.count =
    to_z_pos w64 (omega (arith, ap (λ (b : Block). b.count) block, count_few s f a.values.now a.out.now)) in
    let clips : to_z w64 done.clips ≡ pos done.clips =
    to_z_pos w64 (omega (arith, ap (λ (b : Block). b.clips) block, clips_few s f a.values.now a.out.now)) in
    grind (arith, made, written, taken, count, clips)
