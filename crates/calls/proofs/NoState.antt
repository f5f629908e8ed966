-- Slices that are no state are read as zeros, and zeros are refused by 9, behind what judging refuses of the sheet: an accepted sheet has no period of 0.
-- So what refuses the state that is read of any slices is what refuses the slices, and then the state that they say.
use Prim.Native.Nat.{ℕ, ◌<◌}
use mathlib.Core.Path.{◌≡◌, refl, sym, ap, subst, ◌∙◌}
use mathlib.Core.Bool.{Bool, true, false, cond}
use mathlib.Core.List.{List, [], ◌∷◌}
use native.Mathlib.Omega.{arith}
use lib.Dec.{eqb}
use lib.IntN.{ℤ}
use borrow.Author.Tests.{ne_eqb, eqb-true, eqb-false}
use Rattle.arith.proofs.Both.{and_right}
use Rattle.kinds.specs.Answer.{first_number}
use Rattle.kinds.proofs.Answered.{first-is}
use Rattle.params.specs.Refusal.{Refusal, first_of}
use Rattle.params.specs.Judge.{Sheet, faults, judged}
use Rattle.params.proofs.Faults.{Numbered, faults-numbered, first-append}
use Rattle.params.proofs.Accepted.{no-faults}
use Rattle.fields.specs.Fields.{no_fields, same_fields}
use Rattle.state.specs.declared.Frontend.{Frontend}
use Rattle.state.specs.Start.{fresh}
use Rattle.state.specs.Check.{good_state, can_go_on, state_faults, block_faults}
use Rattle.state.specs.Read.{read_of}
use Rattle.state.proofs.Going.{going}
use Rattle.fixed.specs.Block.{block_of}
use Rattle.fixed.proofs.Refused.{number-first}
use Rattle.places.specs.States.{Slices, state_fits, state_of, read_state}
use Rattle.calls.specs.Calls.{state_number}

-- ---- two numbers

-- 9 is not 0, and neither is what comes before it
nine : (a : ℕ) {n : ℕ} → n ≡ first_number a 9 → n ≡ 0 → ⊥
nine a is z = go (eqb a 0) refl
  where
    go : (b : Bool) → eqb a 0 ≡ b → ⊥
    go true e = let n : ◌≡◌ {A = ℕ} 9 0 = rw e at (sym is ∙ z) in omega arith
    go false e = eqb-false a 0 e (rw e at (sym is ∙ z))

-- ---- zeros

abbrev zeros : Frontend
zeros = fresh no_fields

zeros-bad : (s : Sheet) → faults s ≡ [] → can_go_on s.params zeros ≡ false
unfolding can_go_on fresh
zeros-bad s e = go (can_go_on s.params zeros) refl
  where
    go : (b : Bool) → can_go_on s.params zeros ≡ b → can_go_on s.params zeros ≡ false
    go true t =
        let good = and_right (same_fields s.params no_fields) (good_state s.params zeros) t in
        absurd (omega (arith, (going s.params zeros good).loop.low, (no-faults s e).periods.above))
    go false t = t

zeros-refused : (s : Sheet) → (first_of (state_faults s zeros)).number ≡ first_number (judged s).number 9
unfolding judged
zeros-refused s = go (faults s) refl (faults-numbered s)
  where
    go : (rs : List Refusal) → faults s ≡ rs → Numbered (faults s) → (first_of (state_faults s zeros)).number ≡ first_number (first_of (faults s)).number 9
    go [] e n = rw (e, zeros-bad s e) refl
    go (r ∷ rs) e n =
        let some : 0 < r.number = (subst Numbered e n).0 in
        rw (e, ne_eqb r.number 0 (λ z. omega arith)) refl

reading-first : (s : Sheet) (f : Frontend) → (read_of s f).refused.number ≡ (first_of (state_faults s f)).number
unfolding read_of
reading-first s f = go (eqb (first_of (state_faults s f)).number 0) refl
  where
    go : (b : Bool) → eqb (first_of (state_faults s f)).number 0 ≡ b → (read_of s f).refused.number ≡ (first_of (state_faults s f)).number
    go true e = rw e (sym (eqb-true _ 0 e))
    go false e = rw e refl

block-of-zeros : (s : Sheet) (values out : List ℤ) → (block_of s zeros values out).refused.number ≡ first_number (judged s).number 9
unfolding block_faults
block-of-zeros s values out =
    let h : (first_of (state_faults s zeros)).number ≡ 0 → ⊥ = nine (judged s).number (zeros-refused s) in
    let is = first-append (state_faults s zeros) _ (omega arith) in
    number-first s zeros values out ∙ ap (λ (r : Refusal). r.number) is ∙ zeros-refused s

-- ---- slices

module _ (s : Sheet) (state : Slices) where
  read_number : (refused : Frontend → ℕ) → refused zeros ≡ first_number (judged s).number 9
      → refused (read_state state) ≡ first_number (state_number s state) (refused (state_of state))
  unfolding read_state state_number
  read_number refused of-zeros = go (state_fits state) refl
    where
      go : (b : Bool) → state_fits state ≡ b
          → refused (cond (state_fits state) (state_of state) zeros) ≡ first_number (cond (state_fits state) 0 (first_number (judged s).number 9))
          (refused (state_of state))
      go true e = rw e refl
      go false e = rw e (of-zeros ∙ first-is (first_number (judged s).number 9) (refused (state_of state)) (nine (judged s).number refl) refl)

  pub reading-number : (read_of s (read_state state)).refused.number ≡ first_number (state_number s state) (read_of s (state_of state)).refused.number
  reading-number = read_number (λ f. (read_of s f).refused.number) (reading-first s zeros ∙ zeros-refused s)

  pub block-number : (values out : List ℤ)
      → (block_of s (read_state state) values out).refused.number ≡ first_number (state_number s state) (block_of s (state_of state) values out).refused.number
  block-number values out = read_number (λ f. (block_of s f values out).refused.number) (block-of-zeros s values out)

  -- where nothing refuses the slices, they are a state, and it is read
  pub state-fits : state_number s state ≡ 0 → state_fits state ≡ true
  unfolding state_number
  state-fits z = go (state_fits state) refl
    where
      go : (b : Bool) → state_fits state ≡ b → state_fits state ≡ true
      go true e = e
      go false e = absurd (nine (judged s).number refl (rw e at z))

  pub state-read : state_number s state ≡ 0 → read_state state ≡ state_of state
  unfolding read_state
  state-read z = rw (state-fits z) refl
