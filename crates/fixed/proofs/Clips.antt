-- The clips of a block are at most twelve for each of its symbols: a symbol has so many at most (crates/symbol), and a block's are those of its symbols.
-- A block that is refused has neither.
use Rattle.std.proofs.Common.{◌≡◌, ℕ, ◌*◌, ◌/◌, ◌^◌, ◌≤◌, Bool, true, false, eqb, List, [], ◌∷◌, length, take, ℤ, nat_abs, refl, arith, length-append}
use Rattle.params.specs.Refusal.{first_of}
use Rattle.params.specs.Judge.{Sheet}
use Rattle.registers.specs.Step.{gain_of}
use Rattle.symbol.specs.declared.Symbol.{Symbol}
use Rattle.symbol.proofs.Clips.{symbol-twelve}
use Rattle.state.specs.declared.Pair.{Pair}
use Rattle.state.specs.declared.Frontend.{Frontend}
use Rattle.state.specs.Check.{pairs_taken, block_faults}
use Rattle.fixed.specs.Filter.{filtered}
use Rattle.fixed.specs.Sample.{found_in, symbol_of, joined, falls, next, made_by, emitted}
use Rattle.fixed.specs.Block.{pairs_of, clips_of, accepted, block_of}
use Rattle.fixed.proofs.Runs.{clips-append}

pub symbol-clips : (s : Sheet) (f : Frontend) → (symbol_of s f).clips ≤ 12
unfolding symbol_of
symbol-clips s f =
    let p = s.params in
    let phase : ℕ = nat_abs f.registers.t_acc / 2 ^ 18 in
    symbol-twelve p (gain_of (found_in p f)) (found_in p f).period f.samples phase (filtered s phase f.line f.head)

made-clips : (s : Sheet) (f : Frontend) (x : Pair) → clips_of (made_by s f x) ≤ 12 * length (made_by s f x)
unfolding made_by clips_of
made-clips s f x = go (falls f) refl
  where
    go : (b : Bool) → falls f ≡ b → clips_of (made_by s f x) ≤ 12 * length (made_by s f x)
    go true e = rw e (omega (arith, symbol-clips s (joined s f x)))
    go false e = rw e (omega arith)

run-clips : (s : Sheet) (f : Frontend) (xs : List Pair) → clips_of (emitted s f xs) ≤ 12 * length (emitted s f xs)
unfolding emitted clips_of
run-clips s f [] = omega arith
run-clips s f (x ∷ xs) =
    let a : List Symbol = made_by s f x in
    let b : List Symbol = emitted s (next s f x) xs in
    omega (arith, clips-append a b, length-append a b, made-clips s f x, run-clips s (next s f x) xs)

pub block-clips : (s : Sheet) (f : Frontend) (values out : List ℤ) → (block_of s f values out).clips ≤ 12 * (block_of s f values out).count
unfolding block_of accepted
block-clips s f values out = go (eqb (first_of (block_faults s f (length values) (length out))).number 0) refl
  where
    go : (b : Bool) → eqb (first_of (block_faults s f (length values) (length out))).number 0 ≡ b
        → (block_of s f values out).clips ≤ 12 * (block_of s f values out).count
    go true e = rw e (run-clips s f (take (pairs_taken (length values) (length out)) (pairs_of values)))
    go false e = rw e (omega arith)
