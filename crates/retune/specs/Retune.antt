-- Retuning a state: asking whether a new sheet may be put into it, and committing it. The held sheet alone changes.
-- (RULES 4.4, 4.5. A number before a definition is that of the refusal it decides.)
use Rattle.std.specs.Prelude.{ℕ, cond, eqb, Result, Ok, Err}
use mathlib.Core.List.{List, [], ◌∷◌, ◌++◌, flatten}
use Rattle.params.specs.declared.Params.{Params}
use Rattle.params.specs.Refusal.{Refusal, refusal, nothing, answer_refusal, unless, first_of}
use Rattle.params.specs.Judge.{Sheet, faults}
use Rattle.state.specs.declared.Frontend.{Frontend}
use Rattle.state.specs.Check.{good_state}
use Rattle.retune.specs.declared.RetuneError.{RetuneError}
use Rattle.retune.specs.Refusal.{retune_refusal}

-- ---- what is refused

-- What a state has against new fields: 29, another delay than the held one; 9, a state that is not good under them, whatever sheet it holds; 27, other taps
-- than the held ones. Of the held sheet nothing else is looked at.
unfoldable pub held_faults : Params → Frontend → List Refusal
held_faults p f =
    flatten
    (unless (eqb p.delay f.params.delay) (refusal 29 [])
    ∷ unless (good_state p f) (refusal 9 [])
    ∷ unless (eqb p.taps f.params.taps) (refusal 27 [])
    ∷ [])

-- Asking: 1 to 8 and 29 of the new sheet with its banks, then these.
unfoldable pub ask_faults : Sheet → Frontend → List Refusal
ask_faults s f = faults s ++ held_faults s.params f

-- Committing: all of that, then 28, a ticket that is not the number of the state's symbols.
unfoldable pub commit_faults : Sheet → ℕ → Frontend → List Refusal
commit_faults s ticket f = ask_faults s f ++ unless (eqb ticket f.registers.symbols) (refusal 28 [])

-- ---- asking

pub record Ask : Type 0 where
  pub refused : Refusal
  pub ticket : ℕ

-- The ticket is the number of the state's symbols, and 0 where asking is refused.
unfoldable pub ask_of : Sheet → Frontend → Ask
ask_of s f =
    let r : Refusal = first_of (ask_faults s f) in
    record { refused = r; ticket = cond (eqb r.number 0) f.registers.symbols 0 }

-- What the code's answer says in these terms.
abbrev pub asked : Result ℕ RetuneError → Ask
asked (Ok ticket) = record { refused = nothing; ticket = ticket }
asked (Err e) = record { refused = retune_refusal e; ticket = 0 }

-- ---- committing

-- The state with other fields as its held sheet. All else stays: registers, line, waiting errors, positions and counts.
unfoldable pub retuned : Params → Frontend → Frontend
retuned p f = record {
  params = p;
  registers = f.registers;
  line = f.line;
  head = f.head;
  pending = f.pending;
  oldest = f.oldest;
  waiting = f.waiting;
  samples = f.samples;
}

pub record Commit : Type 0 where
  pub refused : Refusal
  pub state : Frontend

-- The state holds the new sheet's fields where nothing is refused, and is the one given where something is.
unfoldable pub commit_of : Sheet → ℕ → Frontend → Commit
commit_of s ticket f =
    let r : Refusal = first_of (commit_faults s ticket f) in
    record { refused = r; state = cond (eqb r.number 0) (retuned s.params f) f }

-- What the code's answer says in these terms, with the state that it leaves.
abbrev pub committed : Result Unit RetuneError → Frontend → Commit
committed a f = record { refused = answer_refusal retune_refusal a; state = f }
