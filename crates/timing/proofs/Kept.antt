-- A list keeps the invariant: each call that is accepted does, and one that is refused changes nothing. A block's samples keep it one by one (Invariant), under
-- the sheet that the state holds; a commit is accepted only where the state is good under the new sheet.
use Prim.Native.Nat.{ℕ, suc}
use mathlib.Core.Path.{◌≡◌, refl, sym, ap, subst, ◌∙◌}
use mathlib.Core.Bool.{Bool, true, false}
use mathlib.Core.List.{List, [], ◌∷◌, ◌++◌, append_assoc, append-nil}
use lib.Dec.{eqb}
use lib.ListN.{length, replicate}
use lib.IntN.{ℤ}
use borrow.Author.Tests.{eqb-true}
use Rattle.params.specs.declared.Params.{Params}
use Rattle.params.specs.Judge.{Sheet}
use Rattle.params.proofs.Accepted.{Accepted}
use Rattle.params.proofs.Faults.{first-none}
use Rattle.state.specs.declared.Pair.{Pair}
use Rattle.state.specs.declared.Frontend.{Frontend}
use Rattle.state.specs.Check.{block_faults}
use Rattle.state.proofs.Going.{going}
use Rattle.state.proofs.Answers.{block-numbered, Faultless, faultless}
use Rattle.symbol.specs.declared.Symbol.{Symbol}
use Rattle.retune.specs.Retune.{retuned, commit_of}
use Rattle.retune.proofs.Answers.{Retunes, retunes, committed-none}
use Rattle.fixed.specs.Sample.{next, made_by, after, emitted}
use Rattle.fixed.specs.Block.{block_of}
use Rattle.fixed.proofs.Runs.{run-params}
use Rattle.timing.specs.Lists.{Call, block, commit, state_by, state_after}
use Rattle.timing.proofs.Invariant.{Inv, Each, each_append, retuned-inv, next-inv, next-placed}
use Rattle.timing.proofs.Calls.{block_number, answer-is, pairs_of_block, block-state, commit-state, made_by_call, made_in}
use Rattle.timing.proofs.Schedule.{given_by, given, next-counts, Along, along-left, behind}

module _ (p₀ : Params) (Q : ℕ → Sheet) where
  -- the fields at a sample
  abbrev pub fields_at : ℕ → Params
  fields_at n = (Q n).params

  abbrev pub Holds : Params → Frontend → List Symbol → Type 0
  Holds p f S = Inv p₀ fields_at p f S

  abbrev pub AllPlaced : List Symbol → List Symbol → Type 0
  AllPlaced S ys = Each p₀ fields_at S ys

  -- ---- the samples of a block

  module _ (s : Sheet) (a : Accepted s) where
    on : (f : Frontend) (x : Pair) (xs : List Pair) → Along Q (suc f.samples) (replicate (length xs) s)
        → Along Q (next s f x).samples (replicate (length xs) s)
    on f x xs l = subst (λ (m : ℕ). Along Q m (replicate (length xs) s)) (sym (next-counts s f x)) l

    run-inv : (f : Frontend) (S : List Symbol) (xs : List Pair) → Along Q f.samples (replicate (length xs) s) → Holds s.params f S
        → Holds s.params (after s f xs) (S ++ emitted s f xs)
    unfolding after emitted
    run-inv f S [] l i = rw (append-nil S) i
    run-inv f S (x ∷ xs) l i =
        rw (append_assoc S (made_by s f x) (emitted s (next s f x) xs)) at
        (run-inv (next s f x) (S ++ made_by s f x) xs (on f x xs l.1) (next-inv p₀ fields_at s a f S x (ap (λ (q : Sheet). q.params) l.0) i))

    run-placed : (f : Frontend) (S : List Symbol) (xs : List Pair) → Along Q f.samples (replicate (length xs) s) → Holds s.params f S
        → AllPlaced S (emitted s f xs)
    unfolding after emitted
    run-placed f S [] l i = tt
    run-placed f S (x ∷ xs) l i =
        let here = ap (λ (q : Sheet). q.params) l.0 in
        each_append p₀ fields_at S (made_by s f x) (emitted s (next s f x) xs) (next-placed p₀ fields_at s a f S x here i)
        (run-placed (next s f x) (S ++ made_by s f x) xs (on f x xs l.1) (next-inv p₀ fields_at s a f S x here i))

  -- ---- a call

  -- what a call and a list leave: the invariant under the sheet then held, and each symbol in its place
  pub record Leaves (f : Frontend) (S ys : List Symbol) : Type 0 where
    pub inv : Holds f.params f (S ++ ys)
    pub placed : AllPlaced S ys

  nothing-made : (f : Frontend) (S : List Symbol) → Holds f.params f S → Leaves f S []
  nothing-made f S i = record { inv = rw (append-nil S) i; placed = tt }

  block-leaves : (s : Sheet) (f : Frontend) (values out : List ℤ) (S : List Symbol) → Along Q f.samples (given_by f (block s values out))
      → Holds f.params f S → Leaves (block_of s f values out).state S (emitted s f (pairs_of_block s f values out))
  unfolding emitted
  block-leaves s f values out S l i = go (eqb (block_number s f values out) 0) refl
    where
      go : (b : Bool) → eqb (block_number s f values out) 0 ≡ b → Leaves (block_of s f values out).state S (emitted s f (pairs_of_block s f values out))
      go true e =
          let none = first-none (block_faults s f (length values) (length out)) (block-numbered s f (length values) (length out)) (eqb-true _ 0 e) in
          let g : Faultless s f (length values) (length out) = faultless s f (length values) (length out) none in
          let under : Holds s.params f S = subst (λ (p : Params). Holds p f S) (sym g.holds) i in
          let held : s.params ≡ (after s f (pairs_of_block s f values out)).params = g.holds ∙ sym (run-params s f (pairs_of_block s f values out)) in
          rw (block-state s f values out) (record {
            inv = subst (λ (p : Params). Holds p (after s f (pairs_of_block s f values out)) (S ++ emitted s f (pairs_of_block s f values out))) held
                (run-inv s g.sheet f S (pairs_of_block s f values out) l under);
            placed = run-placed s g.sheet f S (pairs_of_block s f values out) l under;
          })
      go false e = rw (answer-is s f values out false e) (nothing-made f S i)

  commit-leaves : (s : Sheet) (ticket : ℕ) (f : Frontend) (S : List Symbol) → Holds f.params f S → Leaves (commit_of s ticket f).state S []
  unfolding retuned
  commit-leaves s ticket f S i = go (eqb (commit_of s ticket f).refused.number 0) refl
    where
      go : (b : Bool) → eqb (commit_of s ticket f).refused.number 0 ≡ b → Leaves (commit_of s ticket f).state S []
      go true e =
          let r : Retunes s f = retunes s f (committed-none s ticket f (eqb-true _ 0 e)) in
          rw (commit-state s ticket f true e)
          (nothing-made (retuned s.params f) S (retuned-inv p₀ fields_at f.params s.params f S (going s.params f r.good) r.delay i))
      go false e = rw (commit-state s ticket f false e) (nothing-made f S i)

  call-leaves : (f : Frontend) (S : List Symbol) (c : Call) → Along Q f.samples (given_by f c) → Holds f.params f S
      → Leaves (state_by f c) S (made_by_call f c)
  call-leaves f S (block s values out) l i = block-leaves s f values out S l i
  call-leaves f S (commit s ticket) l i = commit-leaves s ticket f S i

  -- ---- a list

  pub list-leaves : (f : Frontend) (S : List Symbol) (cs : List Call) → Along Q f.samples (given f cs) → Holds f.params f S
      → Leaves (state_after f cs) S (made_in f cs)
  unfolding state_after made_in given
  list-leaves f S [] l i = nothing-made f S i
  list-leaves f S (c ∷ cs) l i =
      let ys : List Symbol = made_by_call f c in
      let zs : List Symbol = made_in (state_by f c) cs in
      let first = call-leaves f S c (along-left Q f.samples (given_by f c) (given (state_by f c) cs) l) i in
      let rest = list-leaves (state_by f c) (S ++ ys) cs (behind Q f c (given (state_by f c) cs) l) first.inv in
      record { inv = rw (append_assoc S ys zs) at rest.inv; placed = each_append p₀ fields_at S ys zs first.placed rest.placed }
