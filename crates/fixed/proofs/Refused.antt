-- What a block's answer says of its faults. Its refusal is the first fault's, and every fault has a number other than 0, so an answer with the number 0 is that
-- of a block that has no fault, and was run.
use Rattle.std.proofs.Common.{◌≡◌, ℕ, Bool, true, false, eqb, List, [], length, ℤ, sym, refl, ◌∙◌, eqb-true}
use Rattle.params.specs.Refusal.{Refusal, nothing, first_of}
use Rattle.params.specs.Judge.{Sheet}
use Rattle.params.proofs.Faults.{first-none}
use Rattle.state.specs.declared.Frontend.{Frontend}
use Rattle.state.specs.declared.FrontendError.{FrontendError}
use Rattle.state.specs.Check.{block_faults, frontend_refusal}
use Rattle.state.proofs.Answers.{refuses, none_told, frontend-numbered, block-numbered}
use Rattle.fixed.specs.Block.{accepted, block_of}

module _ (s : Sheet) (f : Frontend) (values out : List ℤ) where
  abbrev faulty : List Refusal
  faulty = block_faults s f (length values) (length out)

  pub number-first : (block_of s f values out).refused.number ≡ (first_of faulty).number
  unfolding block_of accepted
  number-first = go (eqb (first_of faulty).number 0) refl
    where
      go : (b : Bool) → eqb (first_of faulty).number 0 ≡ b → (block_of s f values out).refused.number ≡ (first_of faulty).number
      go true e = rw e (sym (eqb-true _ 0 e))
      go false e = rw e refl

  pub no-faults : (block_of s f values out).refused.number ≡ 0 → faulty ≡ []
  no-faults none = first-none faulty (block-numbered s f (length values) (length out)) (sym number-first ∙ none)

  pub ran : (block_of s f values out).refused.number ≡ 0 → block_of s f values out ≡ accepted s f values out
  unfolding block_of
  ran none = rw (no-faults none) refl

-- ---- what the code's answer tells

pub refused_block : (s : Sheet) (f : Frontend) (values out : List ℤ) (e : FrontendError)
    → frontend_refusal e ≡ first_of (block_faults s f (length values) (length out))
    → block_of s f values out ≡ record { refused = frontend_refusal e; state = f; taken = 0; count = 0; clips = 0; output = out }
unfolding block_of
refused_block s f values out e told = rw (sym told, refuses (frontend_refusal e) (frontend-numbered e)) refl

pub faults_none : (s : Sheet) (f : Frontend) (values places : ℕ) → nothing ≡ first_of (block_faults s f values places) → block_faults s f values places ≡ []
faults_none s f values places told = none_told (block_faults s f values places) (block-numbered s f values places) told

pub accepted_block : (s : Sheet) (f : Frontend) (values out : List ℤ) → nothing ≡ first_of (block_faults s f (length values) (length out))
    → block_of s f values out ≡ accepted s f values out
unfolding block_of
accepted_block s f values out told = rw (sym told) refl
