-- Behind a list, 9 says that the sheet is another than the held one, and nothing else. The invariant gives each test that a call makes of a state: the
-- registers stay within the held sheet's clamps, the positions within the line and the queue, and there is at most one symbol a sample. So under the held
-- sheet only what a block brings itself, 10 to 12, can refuse it; and under another the comparison of the two sheets fails.
use Prim.Native.Nat.{ℕ, ◌≤◌}
use mathlib.Core.Path.{◌≡◌, refl, sym, ap, subst, ◌∙◌}
use mathlib.Core.Logic.{◌⊎◌}
use mathlib.Core.Bool.{Bool, true, false}
use mathlib.Core.List.{List, [], ◌∷◌, ◌++◌, flatten}
use native.Mathlib.Omega.{arith}
use lib.ListN.{length}
use lib.IntN.{ℤ}
use Rattle.arith.proofs.Both.{and_both}
use Rattle.params.specs.declared.Params.{Params}
use Rattle.params.specs.Refusal.{Refusal, refusal, first_of}
use Rattle.params.specs.Judge.{Sheet, faults}
use Rattle.params.proofs.Accepted.{judged-none}
use Rattle.fields.specs.Fields.{same_fields}
use Rattle.fields.proofs.Same.{equal-sheets, same-sheet}
use Rattle.state.specs.declared.Frontend.{Frontend}
use Rattle.state.specs.Check.{good_state, can_go_on, state_faults, size_faults, block_faults}
use Rattle.state.specs.Read.{read_of}
use Rattle.state.proofs.Going.{Going, good}
use Rattle.fixed.specs.Block.{block_of}
use Rattle.fixed.proofs.Refused.{number-first}
use Rattle.timing.specs.Lists.{end_state}
use Rattle.timing.specs.Timing.{StatesGoOn}
use Rattle.timing.proofs.Timing.{ends-going}

-- no refusal, or one of 10 to 12
abbrev Own : ℕ → Type 0
Own n = (n ≡ 0) ⊎ ((10 ≤ n) × (n ≤ 12))

-- faults of which only 10, 11 and 12 are left
own : (l : List Refusal) → l ≡ [] → (f : Frontend) (values places : ℕ)
    → let r = first_of (l ++ size_faults f values places) in Own r.number
unfolding size_faults flatten
own l e f values places = rw e (grind arith)

module _ (t : Sheet) (f : Frontend) (clean : faults t ≡ []) where
  -- ---- the held sheet

  -- a state that a block can go on from, under the sheet that it holds
  pub no-state-faults : t.params ≡ f.params → Going f.params f → state_faults t f ≡ []
  unfolding can_go_on
  no-state-faults e g =
      let under : good_state t.params f ≡ true = good t.params f (subst (λ (p : Params). Going p f) (sym e) g) in
      let same : same_fields t.params f.params ≡ true = ap (same_fields t.params) (sym e) ∙ same-sheet t.params in
      rw (clean, and_both same under) refl

  blocks : t.params ≡ f.params → Going f.params f → (values out : List ℤ) → Own (block_of t f values out).refused.number
  unfolding block_faults
  blocks e g values out = rw (number-first t f values out) (own (state_faults t f) (no-state-faults e g) f (length values) (length out))

  reads : t.params ≡ f.params → Going f.params f → (read_of t f).refused.number ≡ 0
  unfolding read_of
  reads e g = rw (no-state-faults e g) refl

  -- ---- another sheet

  nine : (t.params ≡ f.params → ⊥) → state_faults t f ≡ refusal 9 [] ∷ []
  unfolding can_go_on
  nine other = go (same_fields t.params f.params) refl
    where
      go : (b : Bool) → same_fields t.params f.params ≡ b → state_faults t f ≡ refusal 9 [] ∷ []
      go true e = absurd (other (equal-sheets t.params f.params e))
      go false e = rw (clean, e) refl

  other-blocks : (t.params ≡ f.params → ⊥) → (values out : List ℤ) → (block_of t f values out).refused.number ≡ 9
  unfolding block_faults
  other-blocks other values out = rw (number-first t f values out, nine other) refl

  other-reads : (t.params ≡ f.params → ⊥) → (read_of t f).refused.number ≡ 9
  unfolding read_of
  other-reads other = rw (nine other) refl

pub states_go_on : StatesGoOn
states_go_on s ok cs t accepted =
    let f : Frontend = end_state s cs in
    let clean : faults t ≡ [] = judged-none t accepted in
    let g : Going f.params f = ends-going s ok cs in
    record {
      blocks = λ e. blocks t f clean e g;
      reads = λ e. reads t f clean e g;
      other-blocks = other-blocks t f clean;
      other-reads = other-reads t f clean;
    }
