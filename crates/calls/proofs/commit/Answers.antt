-- `commit` meets its contract: slices that are a state have 18 places behind the first ten, so the sheet is written, and what is left are the places of the
-- state with that sheet. The sheet can be read, so the slices are a state again.
use Rattle.std.proofs.Common.{rules, arith, ◌≡◌, true, ◌∙◌, sym, ap, length, length-take, length-drop}
use Rattle.params.specs.Judge.{sheet_of}
use Rattle.retune.specs.Retune.{commit_of}
use Rattle.places.specs.States.{slices, state_fits}
use Rattle.places.proofs.Readable.{are_state}
use Rattle.calls.specs.Calls.{state_number}
use Rattle.calls.proofs.Numbers.{numbered}
use Rattle.calls.proofs.Answers.{sheet-short}
use Rattle.calls.proofs.NoState.{state-fits}
use Rattle.calls.proofs.Committed.{put_fits, written, commit_made}
use Rattle.calls.proofs.commit.Goals.{After-commit}
use Rattle.calls.proofs.commit.Goals as goal

-- the slices are a state
state : (c : After-commit) → let a = c.args in state_fits (slices a.state.now a.line.now a.errors.now) ≡ true
state c = state-fits _ _ (sym c.in_ok-f.ensures.refused)

long : (c : After-commit) → length c.args.state.now ≡ 28
long c = (are_state _ (state c)).places

pub slice_bounds-write_sheet-count : goal.slice_bounds-write_sheet-count
slice_bounds-write_sheet-count c = omega (arith, long (goal.at.slice_bounds-write_sheet-count c).After-commit)

pub slice_bounds-write_sheet-start : goal.slice_bounds-write_sheet-start
slice_bounds-write_sheet-start c = let places = long (goal.at.slice_bounds-write_sheet-start c).After-commit in search rules

pub returns-in_err-write_sheet : goal.returns-in_err-write_sheet
returns-in_err-write_sheet c =
    let places = long (goal.at.returns-in_err-write_sheet c).After-commit in
    absurd (grind (arith, numbered, sheet-short, length-take, length-drop, places))

pub returns-clause-answers : goal.returns-clause-answers
returns-clause-answers c =
    let a = c.args in
    let lent = slices a.state.now a.line.now a.errors.now in
    let passes = c.in_ok-f.ensures.refused ∙ ap (λ p. state_number (sheet_of p a.h.now a.g.now a.k.now) lent) c.in_ok-params.ensures.read in
    let told = c.in_ok-commit.ensures ∙ (λ i. commit_of (sheet_of (c.in_ok-params.ensures.read i) a.h.now a.g.now a.k.now) a.ticket (c.in_ok-f.ensures.read i)) in
    let made = commit_made a.ticket _ _ _ _ lent _ c.in_ok-params.ensures.refused passes told in
    let wrote = written lent (state (goal.at.returns-clause-answers c).After-commit) c.commit.new.f.params in
    grind (arith, made, wrote)

pub returns-clause-fits : goal.returns-clause-fits
returns-clause-fits c =
    put_fits _ (state (goal.at.returns-clause-fits c).After-commit) c.write_sheet.new.sheet c.write_sheet.auto.sheet c.in_ok-write_sheet.ensures.fits
