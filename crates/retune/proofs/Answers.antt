-- What a retune answers, and what its answer tells of the faults. Each fault has a number other than 0, so an answer of nothing says that there is none.
use Prim.Native.Nat.{ℕ, ◌<◌}
use mathlib.Core.Path.{◌≡◌, refl}
use mathlib.Core.Bool.{true}
use mathlib.Core.List.{[], flatten}
use lib.Dec.{eqb, lit<}
use Rattle.params.specs.declared.Params.{Params as Fields}
use Rattle.params.specs.Refusal.{refusal, first_of}
use Rattle.params.specs.Judge.{Sheet, faults}
use Rattle.params.proofs.Faults.{Numbered, numbered-append, numbered-unless, first-none, error-numbered, faults-numbered}
use Rattle.params.proofs.Faults.{kept, none-at, none_left, none_right}
use borrow.Author.Tests.{eq-eqb, eqb-true}
use Rattle.state.specs.declared.Frontend.{Frontend}
use Rattle.state.specs.Check.{good_state}
use Rattle.state.proofs.Answers.{refuses, refused_first, none_first_told}
use Rattle.retune.specs.declared.RetuneError.{RetuneError}
use Rattle.retune.specs.declared.RetuneError.TheVariants.{Params, State, Taps, Ticket}
use Rattle.retune.specs.Refusal.{retune_refusal}
use Rattle.retune.specs.Retune.{held_faults, ask_faults, commit_faults, ask_of, commit_of}

-- ---- faults are numbered

pub retune-numbered : (e : RetuneError) → 0 < (retune_refusal e).number
retune-numbered (Params e) = error-numbered e
retune-numbered State = lit< tt
retune-numbered Taps = lit< tt
retune-numbered Ticket = lit< tt

held-numbered : (p : Fields) (f : Frontend) → Numbered (held_faults p f)
unfolding held_faults flatten
held-numbered p f = search (numbered-append, numbered-unless, lit<) depth 20

pub ask-numbered : (s : Sheet) (f : Frontend) → Numbered (ask_faults s f)
unfolding ask_faults
ask-numbered s f = numbered-append (faults s) _ (faults-numbered s) (held-numbered s.params f)

pub commit-numbered : (s : Sheet) (ticket : ℕ) (f : Frontend) → Numbered (commit_faults s ticket f)
unfolding commit_faults
commit-numbered s ticket f =
    numbered-append (ask_faults s f) _ (ask-numbered s f) (numbered-unless (eqb ticket f.registers.symbols) (refusal 28 []) (lit< tt))

-- ---- where there is no fault

-- what a state and a sheet have where asking refuses nothing
pub record Retunes (s : Sheet) (f : Frontend) : Type 0 where
  pub judged-so : faults s ≡ []
  pub delay : s.params.delay ≡ f.params.delay
  pub good : good_state s.params f ≡ true
  pub taps : s.params.taps ≡ f.params.taps

pub retunes : (s : Sheet) (f : Frontend) → ask_faults s f ≡ [] → Retunes s f
unfolding ask_faults held_faults
retunes s f e =
    let rest : held_faults s.params f ≡ [] = none_right (faults s) _ e in
    record {
      judged-so = none_left (faults s) _ e;
      delay = eqb-true _ _ (kept _ _ (none-at _ rest 0));
      good = kept _ _ (none-at _ rest 1);
      taps = eqb-true _ _ (kept _ _ (none-at _ rest 2));
    }

-- and back
pub no-ask-faults : (s : Sheet) (f : Frontend) → Retunes s f → ask_faults s f ≡ []
unfolding ask_faults held_faults flatten
no-ask-faults s f r = rw (r.judged-so, eq-eqb _ _ r.delay, r.good, eq-eqb _ _ r.taps) refl

-- an answer of 0 tells that there is none
pub asked-none : (s : Sheet) (f : Frontend) → (ask_of s f).refused.number ≡ 0 → ask_faults s f ≡ []
unfolding ask_of
asked-none s f e = first-none (ask_faults s f) (ask-numbered s f) e

pub committed-none : (s : Sheet) (ticket : ℕ) (f : Frontend) → (commit_of s ticket f).refused.number ≡ 0 → ask_faults s f ≡ []
unfolding commit_of commit_faults
committed-none s ticket f e = none_left (ask_faults s f) _ (first-none (commit_faults s ticket f) (commit-numbered s ticket f) e)

-- a commit is refused nothing where asking is not, and the ticket is the number of symbols
pub commits-none : (s : Sheet) (ticket : ℕ) (f : Frontend) → ask_faults s f ≡ [] → ticket ≡ f.registers.symbols → (commit_of s ticket f).refused.number ≡ 0
unfolding commit_of commit_faults
commits-none s ticket f none e = rw (none, eq-eqb ticket f.registers.symbols e) refl

pub ticket_is : (s : Sheet) (f : Frontend) → (ask_of s f).refused.number ≡ 0 → (ask_of s f).ticket ≡ f.registers.symbols
unfolding ask_of
ticket_is s f e = rw (eq-eqb (first_of (ask_faults s f)).number 0 e) refl

-- what is told of a sheet, then of a state, then of a ticket
pub ruleset told = (retune-numbered, refuses, refused_first, none_first_told, ask-numbered)
