-- `read` meets its contract: what is read of the slices is answered, where there are three places for it.
use Rattle.std.proofs.Common.{rules, arith, ◌≡◌, ◌∙◌, ap, pos, w64, to_z, of_z}
use Rattle.params.specs.Judge.{sheet_of}
use mir.Facts.{to_z_pos}
use Rattle.kinds.specs.Answer.{Answer, answer_number}
use Rattle.state.specs.Read.{Read, read_of}
use Rattle.places.specs.Refusal.{places_refusal}
use Rattle.places.specs.States.{slices}
use Rattle.calls.specs.Calls.{sheet_at, read_answer}
use Rattle.calls.proofs.Answers.{read_refused, read_done}
use Rattle.calls.proofs.Fitting.{read_small}
use Rattle.calls.proofs.read.Goals.{After-answer-1}
use Rattle.calls.proofs.read.Goals as goal

pub returns-in_err-reading-clause-answers : goal.returns-in_err-reading-clause-answers
returns-in_err-reading-clause-answers c = grind (arith, read_refused)

-- what is written to the answer, or refused for want of places, is what reading answers
wrote : (c : After-answer-1) → let a = c.args in
    ◌≡◌ {A = Answer} (record { number = answer_number places_refusal c.put.result; places = c.put.new.answer })
    (read_answer a.sheet.now a.h.now a.g.now a.k.now (slices a.state.now a.line.now a.errors.now) a.answer.now)
wrote c =
    let a = c.args in
    let told = c.in_ok-reading.ensures ∙ (λ i. read_of (sheet_of (c.in_ok-params.ensures.read i) a.h.now a.g.now a.k.now) (c.read.ensures i)) in
    let period : to_z w64 (of_z w64 c.from.result) ≡ pos c.in_ok-reading.reading.period = search rules in
    let gain : to_z w64 (of_z w64 c.from-2.result) ≡ pos c.in_ok-reading.reading.gain = search rules in
    let symbols : to_z w64 c.in_ok-reading.reading.symbols ≡ pos c.in_ok-reading.reading.symbols =
    to_z_pos w64 (omega (arith, ap (λ (r : Read). r.symbols) told, read_small (sheet_at a.sheet.now a.h.now a.g.now a.k.now) (slices a.state.now a.line.now a.errors.now))) in
    let put = rw (period, gain, symbols) at c.put.ensures in
    read_done _ _ _ _ (slices a.state.now a.line.now a.errors.now) a.answer.now _ _ _ c.in_ok-params.ensures.refused told put

pub returns-in_err-put-clause-answers : goal.returns-in_err-put-clause-answers
returns-in_err-put-clause-answers c = let told = wrote (goal.at.returns-in_err-put-clause-answers c).After-answer-1 in grind (arith, told)

pub returns-clause-answers : goal.returns-clause-answers
returns-clause-answers c = let told = wrote (goal.at.returns-clause-answers c).After-answer-1 in grind (arith, told)
