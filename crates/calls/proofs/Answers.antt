-- What each call answers, as its code comes to it: of a sheet or a design that cannot be read its number, and of one that can, what the crates below answer of
-- it. The first number that is not 0 decides, and where there is none the places are written.
use Prim.Native.Nat.{ℕ, ◌≤◌, ◌<◌}
use mathlib.Core.Path.{◌≡◌, refl, sym, ap, ◌∙◌}
use mathlib.Core.Bool.{Bool, true, false, cond, and-true}
use mathlib.Core.List.{List, ◌∷◌}
use native.Mathlib.Omega.{arith}
use lib.Dec.{eqb, leb}
use lib.ListN.{length, drop}
use lib.IntN.{ℤ, pos}
use lib.Ieee.{Float}
use borrow.Author.Tests.{ne_eqb, eqb-true, eqb-false, le-leb, lt-leb}
use Rattle.kinds.specs.Answer.{Answer, answered, first_number}
use Rattle.params.specs.declared.Params.{Params}
use Rattle.params.specs.Refusal.{Refusal, nothing, first_of}
use Rattle.params.specs.Judge.{Sheet}
use Rattle.params.proofs.Faults.{none_first}
use Rattle.design.specs.Refusal.{accepted}
use Rattle.design.specs.Design.{sheet_of_design}
use Rattle.state.specs.declared.Frontend.{Frontend}
use Rattle.state.specs.declared.FrontendError.{FrontendError}
use Rattle.state.specs.Start.{Start, start_of}
use Rattle.state.specs.Check.{block_faults, frontend_refusal}
use Rattle.state.proofs.Answers.{refuses, frontend-numbered}
use Rattle.state.specs.Read.{Read, read_of}
use Rattle.fixed.specs.Block.{Block, accepted as run, block_of}
use Rattle.fixed.proofs.Refused.{number-first, no-faults}
use Rattle.places.specs.Sheet.{sheet_number, sheet_written}
use Rattle.places.specs.Rates.{design_number, design_at, gains_at}
use Rattle.places.specs.States.{Slices, are_long, read_state, numbers_of, has_places, state_answered, state_written}
use Rattle.calls.specs.Calls.{sheet_at, state_number, BlockAnswer, block_answer, read_answer, design_answer}
use Rattle.calls.proofs.Numbers.{numbered}
use Rattle.calls.proofs.NoState.{reading-number, block-number, state-read, state-fits}
use Rattle.calls.proofs.Fitting.{started-placed, ticket_small, left, untouched, read_small, taken_small, count_few, clips_few}
use Rattle.places.proofs.Readable.{state-long}

-- ---- numbers of refusals

-- none of two numbers
pub none_of : (a b : ℕ) → first_number a b ≡ 0 → (a ≡ 0) × (b ≡ 0)
none_of a b e = go (eqb a 0) refl
  where
    go : (t : Bool) → eqb a 0 ≡ t → (a ≡ 0) × (b ≡ 0)
    go true t = (eqb-true a 0 t, rw t at e)
    go false t = absurd (eqb-false a 0 t (rw t at e))

-- ---- starting

-- the fresh state has places for its counts, so it is written wherever the slices are long enough
pub start-written : (s : Sheet) (f : Frontend) (state : Slices) → ◌≡◌ {A = Start} (record { refused = nothing; state = f }) (start_of s)
    → state_written f state ≡ state_answered (cond (are_long state) 0 9) (numbers_of f) state
unfolding state_written
start-written s f state told =
    let placed : has_places f ≡ true = ap (λ (a : Start). has_places a.state) told ∙ started-placed s in
    rw (placed, and-true (are_long state)) refl

pub ruleset started = (numbered, start-written)

-- ---- asking

-- the slices are a state where nothing refuses them, and a ticket is a signed number
pub ruleset asked = (numbered, ticket_small, state-fits)

-- ---- reading and a block

-- a block hands on its first fault, with all that it carries
pub block-fault : (s : Sheet) (f : Frontend) (values out : List ℤ)
    → (block_of s f values out).refused ≡ first_of (block_faults s f (length values) (length out))
unfolding block_of run
block-fault s f values out = go (eqb (first_of (block_faults s f (length values) (length out))).number 0) refl
  where
    go : (b : Bool) → eqb (first_of (block_faults s f (length values) (length out))).number 0 ≡ b
        → (block_of s f values out).refused ≡ first_of (block_faults s f (length values) (length out))
    go true e = rw e (sym (none_first _ (no-faults s f values out (number-first s f values out ∙ eqb-true _ 0 e))))
    go false e = rw e refl

-- what is answered of the state that is read of any slices decides: of slices that are none it is 9, as of the slices themselves
module _ (l h g k : List ℤ) (state : Slices) where
  abbrev s : Sheet
  s = sheet_at l h g k

  -- what reading answers of the state that was read
  abbrev read_told : List ℤ → Answer
  read_told places =
      let a : Read = read_of s (read_state state) in
      answered (first_number a.refused.number (cond (leb 3 (length places)) 0 11)) (pos a.period ∷ pos a.gain ∷ pos a.symbols ∷ drop 3 places) places

  pub read_behind : (places : List ℤ) → 0 ≡ sheet_number l → read_answer l h g k state places ≡ read_told places
  unfolding read_answer
  read_behind places read = go (eqb (state_number s state) 0) refl
    where
      go : (b : Bool) → eqb (state_number s state) 0 ≡ b → read_answer l h g k state places ≡ read_told places
      go true t = rw (← read, t, state-read s state (eqb-true _ 0 t)) refl
      go false t = simp (sym read, t, reading-number s state) refl

  -- what a block answers of it
  abbrev block_told : List ℤ → List ℤ → List ℤ → BlockAnswer
  block_told values out answer =
      let b : Block = block_of s (read_state state) values out in
      let n : ℕ = first_number b.refused.number (cond (leb 4 (length answer)) 0 11) in
      cond (eqb n 0)
      (record { number = 0; state = numbers_of b.state; output = b.output; answer = pos b.count ∷ pos b.taken ∷ pos b.clips ∷ drop 3 answer })
      (record { number = n; state = state; output = out; answer = answer })

  block_behind : (values out answer : List ℤ) → 0 ≡ sheet_number l → block_answer l h g k state values out answer ≡ block_told values out answer
  unfolding block_answer
  block_behind values out answer read = go (eqb (state_number s state) 0) refl
    where
      go : (b : Bool) → eqb (state_number s state) 0 ≡ b → block_answer l h g k state values out answer ≡ block_told values out answer
      go true t = rw (← read, t, state-read s state (eqb-true _ 0 t)) refl
      go false t = simp (sym read, t, block-number s state values out) refl

  pub read_refused : (places : List ℤ) (e : FrontendError) → 0 ≡ sheet_number l
      → ◌≡◌ {A = Read} (record { refused = frontend_refusal e; period = 0; gain = 0; symbols = 0 }) (read_of s (read_state state))
      → read_answer l h g k state places ≡ record { number = (frontend_refusal e).number; places = places }
  read_refused places e read told = simp (read_behind places read, sym told, refuses (frontend_refusal e) (frontend-numbered e)) refl

  -- nothing refuses it, so what is written decides
  pub read_done : (places : List ℤ) (period gain symbols : ℕ) {a : Answer} → 0 ≡ sheet_number l
      → ◌≡◌ {A = Read} (record { refused = nothing; period = period; gain = gain; symbols = symbols }) (read_of s (read_state state))
      → a ≡ answered (cond (leb 3 (length places)) 0 11) (pos period ∷ pos gain ∷ pos symbols ∷ drop 3 places) places
      → a ≡ read_answer l h g k state places
  read_done places period gain symbols read told wrote = wrote ∙ rw (read_behind places read, ← told) refl

  module _ (values out answer : List ℤ) (read : 0 ≡ sheet_number l) where
    abbrev block : Block
    block = block_of s (read_state state) values out

    -- a block that is refused, as its faults tell and as running it tells
    refused_by_number : (n : ℕ) (o : List ℤ) → 0 < n → n ≡ block.refused.number → o ≡ out
        → block_answer l h g k state values out answer ≡ record { number = n; state = state; output = o; answer = answer }
    refused_by_number n o some is same = simp (block_behind values out answer read, sym is, ne_eqb n 0 (λ z. absurd (omega arith)), same) refl

    pub block_refused : (e : FrontendError) → frontend_refusal e ≡ first_of (block_faults s (read_state state) (length values) (length out))
        → block_answer l h g k state values out answer ≡ record { number = (frontend_refusal e).number; state = state; output = out; answer = answer }
    block_refused e told =
        refused_by_number (frontend_refusal e).number out (frontend-numbered e)
        (ap (λ (r : Refusal). r.number) told ∙ sym (number-first s (read_state state) values out)) refl

    pub block_stopped : (e : FrontendError) (f : Frontend) (o : List ℤ) → ◌≡◌ {A = Block} (record { refused = frontend_refusal e; state = f; taken = 0; count = 0; clips = 0; output = o }) (block_of s (read_state state) values out)
        → block_answer l h g k state values out answer ≡ record { number = (frontend_refusal e).number; state = state; output = o; answer = answer }
    block_stopped e f o told =
        let number : (frontend_refusal e).number ≡ block.refused.number = ap (λ (b : Block). b.refused.number) told in
        let some : 0 < (frontend_refusal e).number = frontend-numbered e in
        refused_by_number (frontend_refusal e).number o some number
        (ap (λ (b : Block). b.output) told ∙ untouched s (read_state state) values out (λ z. absurd (omega arith)))

    -- one that nothing refuses, without places for its answer and with them
    pub block_short : nothing ≡ first_of (block_faults s (read_state state) (length values) (length out)) → length answer < 4
        → block_answer l h g k state values out answer ≡ record { number = 11; state = state; output = out; answer = answer }
    block_short told short =
        let none : block.refused.number ≡ 0 = number-first s (read_state state) values out ∙ ap (λ (r : Refusal). r.number) (sym told) in
        rw (block_behind values out answer read, none, lt-leb 4 (length answer) short) refl

    pub block_made : (f : Frontend) (taken count clips : ℕ) (o : List ℤ)
        → ◌≡◌ {A = Block} (record { refused = nothing; state = f; taken = taken; count = count; clips = clips; output = o }) (block_of s (read_state state) values out)
        → 4 ≤ length answer
        → block_answer l h g k state values out answer
        ≡ record { number = 0; state = numbers_of f; output = o; answer = pos count ∷ pos taken ∷ pos clips ∷ drop 3 answer }
    block_made f taken count clips o told long = rw (block_behind values out answer read, ← told, le-leb 4 (length answer) long) refl

  -- what it leaves fits: the state is written, and its counts are signed numbers
  pub block_written : (values out : List ℤ) (f : Frontend) (taken count clips : ℕ) (o : List ℤ)
      → ◌≡◌ {A = Block} (record { refused = nothing; state = f; taken = taken; count = count; clips = clips; output = o }) (block_of s (read_state state) values out)
      → state_written f state ≡ record { number = 0; state = numbers_of f }
  unfolding state_written
  block_written values out f taken count clips o told =
      let none : (block_of s (read_state state) values out).refused.number ≡ 0 = ap (λ (b : Block). b.refused.number) (sym told) in
      let fits = none_of (state_number s state) _ (sym (block-number s state values out) ∙ none) in
      let long : are_long state ≡ true = state-long state (state-fits s state fits.0) in
      let placed : has_places f ≡ true = ap (λ (b : Block). has_places b.state) told ∙ (left s (read_state state) values out none).placed in
      rw (long, placed) refl

-- what is read and counted are signed numbers; and of a block, who refuses it, and what a short answer leaves
pub ruleset reads = (numbered, read_small)

pub ruleset blocks = (numbered, taken_small, count_few, clips_few, block-fault, block_short)

-- ---- a design

-- its sheet is written
pub design_made : (rates : List Float) (fields h g k places : List ℤ) (p : Params) → 0 ≡ design_number rates fields
    → accepted p ≡ sheet_of_design (design_at rates fields) (gains_at fields) h g k
    → design_answer rates fields h g k places ≡ sheet_written p places
unfolding design_answer sheet_written
design_made rates fields h g k places p read is = rw (← read, ← is) refl

-- or there are too few places for it
pub sheet-short : (p : Params) (places : List ℤ) → (sheet_written p places).number ≡ cond (leb 18 (length places)) 0 11
unfolding sheet_written
sheet-short p places = refl

pub ruleset designed = (numbered, design_made, sheet-short)
