-- What calls leave fits places: a state after starting or after a block, the three counts of a block, and the numbers that are read of a state.
-- A count of samples is at most 2^63 - 1 where nothing is refused, and the others are below it; the counts of a state that slices say are from places.
use Prim.Native.Nat.{ℕ, ◌≤◌}
use mathlib.Core.Path.{◌≡◌, refl, sym, ◌∙◌}
use mathlib.Core.Bool.{Bool, true, false, cond}
use mathlib.Core.List.{List, [], ◌∷◌}
use native.Mathlib.Omega.{arith}
use lib.Dec.{eqb, lit<}
use lib.ListN.{length, take, length-append}
use lib.Seq.{length-take-le}
use lib.IntN.{ℤ}
use borrow.Author.Tests.{ne_eqb, eqb-true}
use Rattle.kinds.specs.Kinds.{at}
use Rattle.kinds.proofs.OfKind.{count_small}
use Rattle.params.specs.Refusal.{first_of}
use Rattle.params.specs.Judge.{Sheet}
use Rattle.state.specs.declared.Pair.{Pair}
use Rattle.state.specs.declared.Frontend.{Frontend}
use Rattle.fields.specs.Fields.{no_fields}
use Rattle.state.specs.Start.{start_of, fresh}
use Rattle.state.specs.Check.{state_faults, block_faults, pairs_taken}
use Rattle.state.specs.Read.{read_of}
use Rattle.state.proofs.Answers.{Faultless, faultless}
use Rattle.state.proofs.Going.{Going, going}
use Rattle.retune.specs.Retune.{ask_faults, ask_of}
use Rattle.fixed.specs.Sample.{falls, made_by, next, after, emitted}
use Rattle.fixed.specs.Block.{Block, pairs_of, accepted, block_of}
use Rattle.fixed.proofs.States.{run-going}
use Rattle.fixed.proofs.Runs.{run-samples}
use Rattle.fixed.proofs.Turns.{pairs-long}
use Rattle.fixed.proofs.Clips.{block-clips}
use Rattle.fixed.proofs.Refused.{number-first, no-faults, ran}
use Rattle.places.specs.States.{Slices, state_fits, registers_at, state_of, read_state, has_places}
use Rattle.calls.specs.Calls.{state_number}
use Rattle.calls.proofs.NoState.{state-read}
use Rattle.places.proofs.Placed.{has-places}
use Rattle.places.proofs.Readable.{are_state, first_at}

-- ---- starting

pub started-placed : (s : Sheet) → has_places (start_of s).state ≡ true
unfolding start_of fresh
started-placed s = has-places (start_of s).state
    (record { symbols = omega arith; head = omega arith; oldest = omega arith; waiting = omega arith; samples = omega arith })

-- ---- what is read of slices

-- symbols are from a place, and of zeros they are 0
pub symbols_small : (state : Slices) → (read_state state).registers.symbols ≤ 9223372036854775807
unfolding read_state state_of registers_at fresh
symbols_small state = go (state_fits state) refl
  where
    go : (b : Bool) → state_fits state ≡ b → (cond (state_fits state) (state_of state) (fresh no_fields)).registers.symbols ≤ 9223372036854775807
    go true e = rw e (count_small (at state.places 5) (first_at state.places (are_state state e).first 5 (lit< tt)).is)
    go false e = rw e (omega arith)

-- reading answers no more symbols than the state has
pub read_small : (s : Sheet) (state : Slices) → (read_of s (read_state state)).symbols ≤ 9223372036854775807
unfolding read_of
read_small s state = go (eqb (first_of (state_faults s (read_state state))).number 0) refl
  where
    go : (b : Bool) → eqb (first_of (state_faults s (read_state state))).number 0 ≡ b → (read_of s (read_state state)).symbols ≤ 9223372036854775807
    go true e = rw e (symbols_small state)
    go false e = rw e (omega arith)

-- and so does asking
pub ticket_small : (s : Sheet) (state : Slices) → 0 ≡ state_number s state → (ask_of s (state_of state)).ticket ≤ 9223372036854775807
unfolding ask_of
ticket_small s state told =
    go (eqb (first_of (ask_faults s (state_of state))).number 0) refl
    (rw (state-read s state (sym told)) at (symbols_small state))
  where
    go : (b : Bool) → eqb (first_of (ask_faults s (state_of state))).number 0 ≡ b → (state_of state).registers.symbols ≤ 9223372036854775807
        → (ask_of s (state_of state)).ticket ≤ 9223372036854775807
    go true e few = rw e few
    go false e few = rw e (omega arith)

-- ---- a block

-- at most one symbol a sample
made-few : (s : Sheet) (f : Frontend) (x : Pair) → length (made_by s f x) ≤ 1
unfolding made_by
made-few s f x = go (falls f) refl
  where
    go : (b : Bool) → falls f ≡ b → length (made_by s f x) ≤ 1
    go true e = rw e (omega arith)
    go false e = rw e (omega arith)

few : (s : Sheet) (f : Frontend) (xs : List Pair) → length (emitted s f xs) ≤ length xs
unfolding emitted
few s f [] = omega arith
few s f (x ∷ xs) = omega (arith, length-append (made_by s f x) (emitted s (next s f x) xs), made-few s f x, few s (next s f x) xs)

pub record Counts (b : Block) (places : ℕ) : Type 0 where
  pub taken : b.taken ≤ 9223372036854775807
  pub counted : b.count ≤ 9223372036854775807
  pub clipped : b.clips ≤ places

-- what a block without a refusal leaves
pub record Left (b : Block) (places : ℕ) : Type 0 where
  pub placed : has_places b.state ≡ true
  pub counts : Counts b places

module _ (s : Sheet) (f : Frontend) (values out : List ℤ) where
  -- a number other than 0: nothing was written
  pub untouched : ((block_of s f values out).refused.number ≡ 0 → ⊥) → (block_of s f values out).output ≡ out
  unfolding block_of
  untouched h = rw (ne_eqb _ 0 (λ z. h (number-first s f values out ∙ z))) refl

  pub left : (block_of s f values out).refused.number ≡ 0 → Left (block_of s f values out) (length out)
  unfolding accepted pairs_taken
  left none =
      let g : Faultless s f (length values) (length out) = faultless s f (length values) (length out) (no-faults s f values out none) in
      let n : ℕ = pairs_taken (length values) (length out) in
      let xs : List Pair = take n (pairs_of values) in
      let long : length xs ≡ n = length-take-le n (pairs_of values) (omega (arith, pairs-long values)) in
      let to : Going s.params (after s f xs) = run-going s g.sheet f xs (going s.params f g.good) in
      let samples : (after s f xs).samples ≤ 9223372036854775807 = omega (arith, run-samples s f xs, long, g.sizes.few) in
      rw (ran s f values out none)
      (record {
        placed = has-places (after s f xs) (record {
          symbols = omega (arith, to.few);
          head = omega (arith, to.head, g.sheet.lengths.good.most);
          oldest = omega (arith, to.oldest);
          waiting = omega (arith, to.waiting);
          samples = samples;
        });
        counts = record {
          taken = omega (arith, g.sizes.few);
          counted = omega (arith, few s f xs, long, g.sizes.few);
          clipped = omega (arith, rw (ran s f values out none) at (block-clips s f values out), few s f xs, long);
        };
      })

  -- so its counts are signed numbers, and one that is refused counts nothing
  small : Counts (block_of s f values out) (length out)
  unfolding block_of
  small = go (eqb (first_of (block_faults s f (length values) (length out))).number 0) refl
    where
      go : (b : Bool) → eqb (first_of (block_faults s f (length values) (length out))).number 0 ≡ b → Counts (block_of s f values out) (length out)
      go true e = (left (number-first s f values out ∙ eqb-true _ 0 e)).counts
      go false e = rw e (record { taken = omega arith; counted = omega arith; clipped = omega arith })

  pub taken_small : (block_of s f values out).taken ≤ 9223372036854775807
  taken_small = small.taken

  pub count_few : (block_of s f values out).count ≤ 9223372036854775807
  count_few = small.counted

  pub clips_few : (block_of s f values out).clips ≤ length out
  clips_few = small.clipped
