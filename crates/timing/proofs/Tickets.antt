-- A ticket holds until the next symbol. What asking looks at are the held delay and taps, which no accepted call changes, and registers and counts, of which
-- samples without a symbol move only the time, which goes down to no less than 0, and the count of samples, which goes up; and the line's head, which stays
-- within the taps.
use Prim.Native.Nat.{ℕ}
use mathlib.Core.Path.{◌≡◌, refl, sym, ap, ◌∙◌}
use mathlib.Core.Bool.{Bool, true, false}
use mathlib.Core.List.{List, [], ◌∷◌}
use native.Mathlib.Omega.{arith}
use lib.Dec.{eqb}
use lib.ListN.{length, length-append}
use lib.IntN.{ℤ}
use lib.Signed.{lt_z}
use borrow.Author.Tests.{ltb-false, eqb-true}
use Rattle.params.specs.declared.Params.{Params}
use Rattle.params.specs.Judge.{Sheet, faults}
use Rattle.params.proofs.Accepted.{Accepted, no-faults}
use Rattle.params.proofs.Faults.{first-none}
use Rattle.registers.specs.Step.{one}
use Rattle.state.specs.declared.Pair.{Pair}
use Rattle.state.specs.declared.Frontend.{Frontend}
use Rattle.state.specs.Check.{good_state, block_faults}
use Rattle.state.proofs.Going.{time, Going, going, good}
use Rattle.state.proofs.Answers.{block-numbered, Faultless, faultless}
use Rattle.retune.specs.Retune.{retuned, ask_of, commit_of}
use Rattle.retune.proofs.Answers.{Retunes, retunes, no-ask-faults, asked-none, committed-none, commits-none, ticket_is}
use Rattle.fixed.specs.Sample.{joined, without_symbol, falls, next, made_by, after, emitted}
use Rattle.fixed.specs.Block.{block_of}
use Rattle.fixed.proofs.States.{head-below, without-symbol-going}
use Rattle.fixed.proofs.Runs.{run-params}
use Rattle.timing.specs.Lists.{Call, block, commit, state_by, counted_by, state_after, counted}
use Rattle.timing.specs.Timing.{TicketsHold}
use Rattle.timing.proofs.Calls.{block_number, answer-is, pairs_of_block, block-state, block-count, commit-state}

module _ (t : Sheet) (n : ℕ) where
  -- asking for t is refused nothing, and n is the ticket
  record Waits (f : Frontend) : Type 0 where
    asks : Retunes t f
    symbols : f.registers.symbols ≡ n

  -- ---- samples without a symbol

  module _ (clean : faults t ≡ []) (s : Sheet) (taps : t.params.taps ≡ s.params.taps) where
    a : Accepted t
    a = no-faults t clean

    -- what is kept: the state is good under t, and has as many symbols
    record Still (f : Frontend) : Type 0 where
      goes : Going t.params f
      symbols : f.registers.symbols ≡ n

    joined-still : (f : Frontend) (x : Pair) → Still f → Still (joined s f x)
    unfolding joined
    joined-still f x w = record {
      goes = record {
        head = rw taps (head-below s.params.taps f.head (rw taps at w.goes.head));
        whole = w.goes.whole;
        soon = w.goes.soon;
        loop = w.goes.loop;
        waiting = w.goes.waiting;
        oldest = w.goes.oldest;
        few = w.goes.few;
      };
      symbols = w.symbols;
    }

    next-still : (f : Frontend) (x : Pair) → length (made_by s f x) ≡ 0 → Still f → Still (next s f x)
    unfolding next made_by joined without_symbol
    next-still f x none w = go (falls f) refl
      where
        j : Still (joined s f x)
        j = joined-still f x w

        go : (b : Bool) → falls f ≡ b → Still (next s f x)
        go true e = absurd (omega (arith, rw e at none))
        go false e =
            let late = ltb-false (time f) 16777216 (sym (ap (λ (z : ℤ). lt_z z one) w.goes.whole) ∙ e) in
            rw e (record { goes = without-symbol-going t a (joined s f x) late j.goes; symbols = j.symbols })

    run-still : (f : Frontend) (xs : List Pair) → length (emitted s f xs) ≡ 0 → Still f → Still (after s f xs)
    unfolding after emitted
    run-still f [] none w = w
    run-still f (x ∷ xs) none w =
        let both = length-append (made_by s f x) (emitted s (next s f x) xs) in
        run-still (next s f x) xs (omega arith) (next-still f x (omega arith) w)

  -- ---- a call

  block-waits : (s : Sheet) (f : Frontend) (values out : List ℤ) → (block_of s f values out).count ≡ 0 → Waits f → Waits (block_of s f values out).state
  block-waits s f values out none w = go (eqb (block_number s f values out) 0) refl
    where
      go : (b : Bool) → eqb (block_number s f values out) 0 ≡ b → Waits (block_of s f values out).state
      go true e =
          let xs : List Pair = pairs_of_block s f values out in
          let free = first-none (block_faults s f (length values) (length out)) (block-numbered s f (length values) (length out)) (eqb-true _ 0 e) in
          let g : Faultless s f (length values) (length out) = faultless s f (length values) (length out) free in
          let r : Retunes t f = w.asks in
          let held : f.params ≡ (after s f xs).params = sym (run-params s f xs) in
          let taps : t.params.taps ≡ s.params.taps = r.taps ∙ ap (λ (p : Params). p.taps) (sym g.holds) in
          let k = run-still r.judged-so s taps f xs (sym (block-count s f values out) ∙ none)
          (record { goes = going t.params f r.good; symbols = w.symbols }) in
          rw (block-state s f values out) (record {
            asks = record {
              judged-so = r.judged-so;
              delay = r.delay ∙ ap (λ (p : Params). p.delay) held;
              good = good t.params (after s f xs) k.goes;
              taps = r.taps ∙ ap (λ (p : Params). p.taps) held;
            };
            symbols = k.symbols;
          })
      go false e = rw (answer-is s f values out false e) w

  commit-waits : (s : Sheet) (ticket : ℕ) (f : Frontend) → Waits f → Waits (commit_of s ticket f).state
  unfolding retuned good_state
  commit-waits s ticket f w = go (eqb (commit_of s ticket f).refused.number 0) refl
    where
      go : (b : Bool) → eqb (commit_of s ticket f).refused.number 0 ≡ b → Waits (commit_of s ticket f).state
      go true e =
          let r : Retunes t f = w.asks in
          let q : Retunes s f = retunes s f (committed-none s ticket f (eqb-true _ 0 e)) in
          rw (commit-state s ticket f true e) (record {
            asks = record { judged-so = r.judged-so; delay = r.delay ∙ sym q.delay; good = r.good; taps = r.taps ∙ sym q.taps };
            symbols = w.symbols;
          })
      go false e = rw (commit-state s ticket f false e) w

  call-waits : (f : Frontend) (c : Call) → counted_by f c ≡ 0 → Waits f → Waits (state_by f c)
  call-waits f (block s values out) none w = block-waits s f values out none w
  call-waits f (commit s ticket) none w = commit-waits s ticket f w

  -- ---- a list

  list-waits : (f : Frontend) (cs : List Call) → counted f cs ≡ 0 → Waits f → Waits (state_after f cs)
  unfolding counted state_after
  list-waits f [] none w = w
  list-waits f (c ∷ cs) none w = list-waits (state_by f c) cs (omega arith) (call-waits f c (omega arith) w)

pub tickets_hold : TicketsHold
tickets_hold f t cs asked none =
    let w = list-waits t f.registers.symbols f cs none (record { asks = retunes t f (asked-none t f asked); symbols = refl }) in
    commits-none t (ask_of t f).ticket (state_after f cs) (no-ask-faults t (state_after f cs) w.asks) (ticket_is t f asked ∙ sym w.symbols)
