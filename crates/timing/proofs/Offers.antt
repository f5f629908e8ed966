-- A caller that offers what is left comes to its end. Its calls are refused nothing, so each that has a pair takes one: the pairs left are fewer every time,
-- and what the calls took, joined, is what was there.
use Prim.Native.Nat.{ℕ, suc, ◌+◌, ◌-◌, ◌*◌, ◌/◌, ◌%◌, ◌≤◌, ◌<◌}
use mathlib.Core.Path.{◌≡◌, refl, sym, ap, subst, ◌∙◌}
use mathlib.Core.Logic.{inr}
use mathlib.Core.List.{List, [], ◌∷◌, ◌++◌}
use native.Mathlib.Omega.{arith}
use lib.ListN.{length, get_or, take, drop, length-drop, take-append-drop}
use lib.Seq.{length-take-le}
use lib.IntN.{ℤ}
use Rattle.params.specs.declared.Params.{Params}
use Rattle.params.specs.Judge.{Sheet, faults}
use Rattle.params.proofs.Accepted.{judged-none, no-faults}
use Rattle.state.specs.declared.Pair.{Pair}
use Rattle.state.specs.declared.Frontend.{Frontend}
use Rattle.state.specs.Check.{pairs_taken, block_faults}
use Rattle.state.proofs.Going.{Going}
use Rattle.state.proofs.Answers.{Sized, no-sizes}
use Rattle.fixed.specs.Sample.{after}
use Rattle.fixed.specs.Block.{Block, pairs_of, accepted, block_of}
use Rattle.fixed.proofs.Runs.{run-samples, run-params}
use Rattle.fixed.proofs.States.{run-going}
use Rattle.fixed.proofs.Turns.{pairs-long, pairs-rest}
use Rattle.timing.specs.Lists.{taken, offers, end_state}
use Rattle.timing.specs.Timing.{OffersEnd}
use Rattle.timing.proofs.Timing.{ends-going}
use Rattle.timing.proofs.GoOn.{no-state-faults}

-- no pairs are left
none_left : (values : List ℤ) → length values / 2 ≤ 0 → [] ≡ pairs_of values
unfolding pairs_of
none_left [] h = refl
none_left (i ∷ []) h = refl
none_left (i ∷ q ∷ values) h = absurd (omega arith)

module _ (s : Sheet) (clean : faults s ≡ []) where
  -- a block that is refused nothing, on a state that holds its sheet
  accepts : (f : Frontend) (values out : List ℤ) → s.params ≡ f.params → Going f.params f → length values % 2 ≡ 0 → Sized f (length values) (length out)
      → block_of s f values out ≡ accepted s f values out
  unfolding block_of block_faults
  accepts f values out holds going whole sized =
      rw (no-state-faults s f clean holds going, no-sizes f (length values) (length out) whole sized) refl

  -- the state behind it holds the sheet too
  goes_on : (f : Frontend) (xs : List Pair) → s.params ≡ f.params → Going f.params f → Going (after s f xs).params (after s f xs)
  goes_on f xs holds going =
      let under : Going s.params f = subst (λ (p : Params). Going p f) (sym holds) going in
      subst (λ (p : Params). Going p (after s f xs)) (holds ∙ sym (run-params s f xs)) (run-going s (no-faults s clean) f xs under)

  all-taken : (f : Frontend) (values : List ℤ) (outs : List (List ℤ)) → s.params ≡ f.params → Going f.params f → length values % 2 ≡ 0
      → f.samples + length values / 2 ≤ 9223372036854775807 → ((n : ℕ) → n < length outs → 20 ≤ length (get_or outs n [])) → length values / 2 ≤ length outs
      → taken f (offers s f values outs) ≡ pairs_of values
  unfolding taken offers accepted pairs_taken
  all-taken f values [] holds going whole few room enough = none_left values enough
  all-taken f values (out ∷ outs) holds going whole few room enough =
      let n : ℕ = pairs_taken (length values) (length out) in
      let xs : List Pair = take n (pairs_of values) in
      let places : 20 ≤ length out = room 0 (omega arith) in
      let long : length xs ≡ n = length-take-le n (pairs_of values) (omega (arith, pairs-long values)) in
      let left : length (drop (2 * n) values) ≡ length values - 2 * n = length-drop (2 * n) values in
      let rest : taken (after s f xs) (offers s (after s f xs) (drop (2 * n) values) outs) ≡ pairs_of (drop (2 * n) values) =
      all-taken (after s f xs) (drop (2 * n) values) outs (holds ∙ sym (run-params s f xs)) (goes_on f xs holds going) (omega (arith, left, whole))
      (omega (arith, run-samples s f xs, long, left, few)) (λ m h. room (suc m) (omega arith)) (omega (arith, left, places, enough)) in
      ap (λ (b : Block). take b.taken (pairs_of values) ++ taken b.state (offers s b.state (drop (2 * b.taken) values) outs))
      (accepts f values out holds going whole (record { room = inr places; few = omega (arith, few) }))
      ∙ ap (λ (l : List Pair). xs ++ l) (rest ∙ pairs-rest values n) ∙ take-append-drop n (pairs_of values)

pub offers_end : OffersEnd
offers_end s ok cs t judges holds values outs whole few room enough =
    all-taken t (judged-none t judges) (end_state s cs) values outs holds (ends-going s ok cs) whole few room enough
