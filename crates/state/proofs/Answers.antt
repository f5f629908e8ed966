-- What a call on a state answers, and what its answer tells of the faults. The faults of a sheet, of a state and of a block's sizes are looked for in this
-- order, each has a number other than 0, and so an answer of nothing says that there is none.
use Prim.Native.Nat.{ℕ, ◌+◌, ◌*◌, ◌%◌, ◌≤◌, ◌<◌}
use mathlib.Core.Path.{◌≡◌, refl, sym, ap, ◌∙◌, subst}
use mathlib.Core.Logic.{◌⊎◌}
use mathlib.Core.Bool.{true, false, ◌||◌}
use mathlib.Core.List.{List, [], ◌++◌, flatten}
use native.Mathlib.Omega.{arith}
use lib.Dec.{eqb, leb, lit<}
use Rattle.arith.proofs.Both.{and_left}
use Rattle.params.specs.Refusal.{Refusal, refusal, nothing, first_of}
use Rattle.params.specs.Judge.{Sheet, faults, judged}
use Rattle.params.proofs.Faults.{Numbered, numbered-append, numbered-unless, first-none, none_first, first-append, error-numbered, faults-numbered}
use Rattle.params.proofs.Faults.{kept, none-at, none_left, none_right}
use Rattle.params.proofs.Accepted.{Accepted, no-faults}
use Rattle.fields.specs.Fields.{same_fields}
use Rattle.fields.proofs.Same.{equal-sheets}
use Rattle.registers.specs.Step.{gain_of}
use Rattle.state.specs.declared.Frontend.{Frontend}
use Rattle.state.specs.declared.FrontendError.{FrontendError}
use Rattle.state.specs.declared.FrontendError.TheVariants.{Params, State, OddInput, ShortOutput, TooManySamples}
use Rattle.state.specs.Read.{read_of}
use Rattle.state.specs.Check.{good_state, can_go_on, state_faults, pairs_taken, size_faults, block_faults, frontend_refusal}
use Rattle.state.proofs.Going.{going}

-- ---- what an answer tells of a list of faults

-- what refuses has a number, and that is not the number of nothing
pub refuses : (r : Refusal) → 0 < r.number → eqb r.number 0 ≡ false
refuses r h = grind arith

-- nothing: there is none
pub none_told : (rs : List Refusal) → Numbered rs → nothing ≡ first_of rs → rs ≡ []
none_told rs n told = first-none rs n (ap (λ (r : Refusal). r.number) (sym told))

-- of two lists, one after the other: a refusal of the first is that of both
pub refused_first : (a b : List Refusal) (r : Refusal) → 0 < r.number → r ≡ first_of a → first_of (a ++ b) ≡ r
refused_first a b r h told = first-append a b (subst (λ (q : Refusal). 0 < q.number) told h) ∙ sym told

-- and where the first has none, the answer is the second's
pub none_first_told : (a b : List Refusal) → Numbered a → nothing ≡ first_of a → first_of (a ++ b) ≡ first_of b
none_first_told a b n told = ap (λ (l : List Refusal). first_of (l ++ b)) (none_told a n told)

-- ---- faults are numbered

pub frontend-numbered : (e : FrontendError) → 0 < (frontend_refusal e).number
frontend-numbered (Params e) = error-numbered e
frontend-numbered State = lit< tt
frontend-numbered OddInput = lit< tt
frontend-numbered ShortOutput = lit< tt
frontend-numbered TooManySamples = lit< tt

pub state-numbered : (s : Sheet) (f : Frontend) → Numbered (state_faults s f)
state-numbered s f = numbered-append (faults s) _ (faults-numbered s) (numbered-unless (can_go_on s.params f) (refusal 9 []) (lit< tt))

pub sizes-numbered : (f : Frontend) (values places : ℕ) → Numbered (size_faults f values places)
unfolding size_faults flatten
sizes-numbered f values places = search (numbered-append, numbered-unless, lit<) depth 20

pub block-numbered : (s : Sheet) (f : Frontend) (values places : ℕ) → Numbered (block_faults s f values places)
unfolding block_faults
block-numbered s f values places = numbered-append (state_faults s f) _ (state-numbered s f) (sizes-numbered f values places)

-- ---- a block's sizes

-- a block takes at most half of the values' number
pub few_pairs : (values places : ℕ) → (pairs_taken values places ≡ pairs_taken values places) × (2 * pairs_taken values places ≤ values)
unfolding pairs_taken
few_pairs values places = (refl, omega arith)

-- ---- where there is no fault

pub goes_on : (s : Sheet) (f : Frontend) → state_faults s f ≡ [] → can_go_on s.params f ≡ true
goes_on s f e = kept (can_go_on s.params f) (refusal 9 []) (none_right (faults s) _ e)

-- the state is good under the sheet, and holds it
pub state-good : (s : Sheet) (f : Frontend) → state_faults s f ≡ [] → good_state s.params f ≡ true
unfolding can_go_on
state-good s f e = grind (arith, goes_on s f e)

pub state-holds : (s : Sheet) (f : Frontend) → state_faults s f ≡ [] → s.params ≡ f.params
unfolding can_go_on
state-holds s f e = equal-sheets s.params f.params (and_left (same_fields s.params f.params) (good_state s.params f) (goes_on s f e))

-- no values, or 20 places
pub enough : (values places : ℕ) → (values ≡ 0) ⊎ (20 ≤ places) → (eqb values 0 || leb 20 places) ≡ true
enough values places h = grind arith

-- what is said of a block's sizes: room for a symbol where there are values, and samples that can still be counted
pub record Sized (f : Frontend) (values places : ℕ) : Type 0 where
  pub room : (values ≡ 0) ⊎ (20 ≤ places)
  pub few : f.samples + pairs_taken values places ≤ 9223372036854775807

pub sized : (f : Frontend) (values places : ℕ) → size_faults f values places ≡ [] → Sized f values places
unfolding size_faults
sized f values places e =
    let ten = kept _ _ (none-at _ e 1) in
    let twelve = kept _ _ (none-at _ e 2) in
    record { room = grind arith; few = grind arith }

-- and back, of whole pairs
pub no-sizes : (f : Frontend) (values places : ℕ) → values % 2 ≡ 0 → Sized f values places → size_faults f values places ≡ []
unfolding size_faults flatten
no-sizes f values places whole s = grind arith

-- so a block that has pairs takes one
pub takes-some : (f : Frontend) {values places : ℕ} → Sized f values places → 2 ≤ values → 1 ≤ pairs_taken values places
unfolding pairs_taken
takes-some f {values} {places} s h = grind arith

-- what a block without any fault has
pub record Faultless (s : Sheet) (f : Frontend) (values places : ℕ) : Type 0 where
  pub judged-so : judged s ≡ nothing
  pub sheet : Accepted s
  pub holds : s.params ≡ f.params
  pub good : good_state s.params f ≡ true
  pub sizes : Sized f values places

pub faultless : (s : Sheet) (f : Frontend) (values places : ℕ) → block_faults s f values places ≡ [] → Faultless s f values places
unfolding block_faults judged
faultless s f values places e =
    let state : state_faults s f ≡ [] = none_left (state_faults s f) _ e in
    let sheet : faults s ≡ [] = none_left (faults s) _ state in
    record {
      judged-so = none_first (faults s) sheet;
      sheet = no-faults s sheet;
      holds = state-holds s f state;
      good = state-good s f state;
      sizes = sized f values places (none_right (state_faults s f) _ e);
    }

-- ---- reading

-- an accepted state's gain accumulator has 24 bits, so that nothing of its gain is dropped
pub accepted_read : (s : Sheet) (f : Frontend) → nothing ≡ first_of (state_faults s f)
    → read_of s f ≡ record { refused = nothing; period = f.registers.period; gain = gain_of f.registers % 65536; symbols = f.registers.symbols }
unfolding read_of
accepted_read s f told =
    let none : state_faults s f ≡ [] = none_told _ (state-numbered s f) told in
    let few : f.registers.gain_acc ≤ 16777215 = (going s.params f (state-good s f none)).loop.gain in
    let small : gain_of f.registers % 65536 ≡ gain_of f.registers = omega (arith, few) in
    rw (none, small) refl

-- what is told of a sheet, then of a state, then of a block's sizes
pub ruleset told = (none_told, refused_first, none_first_told, refuses, state-numbered, frontend-numbered)
