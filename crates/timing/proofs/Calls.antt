-- What a call does is what a run over the samples that it took does: a block takes its first pairs, as many as it answers, and a refused one took none; a
-- commit takes none, and changes the held sheet alone. So what a list of calls wrote, counted and clipped is that of the symbols that its blocks made, one
-- after another.
use Prim.Native.Nat.{ℕ, ◌+◌, ◌*◌}
use mathlib.Core.Path.{◌≡◌, refl, sym}
use mathlib.Core.Bool.{Bool, true, false, cond}
use mathlib.Core.List.{List, [], ◌∷◌, ◌++◌}
use native.Mathlib.Omega.{arith}
use lib.Dec.{eqb}
use lib.ListN.{length, take, drop, length-append}
use lib.Seq.{take_at}
use lib.IntN.{ℤ}
use Rattle.params.specs.Refusal.{first_of}
use Rattle.params.specs.Judge.{Sheet}
use Rattle.state.specs.declared.Pair.{Pair}
use Rattle.state.specs.declared.Frontend.{Frontend}
use Rattle.symbol.specs.declared.Symbol.{Symbol}
use Rattle.state.specs.Check.{pairs_taken, block_faults}
use Rattle.retune.specs.Retune.{retuned, commit_of}
use Rattle.fixed.specs.Sample.{after, emitted}
use Rattle.fixed.specs.Block.{Block, pairs_of, flattened, clips_of, accepted, block_of}
use Rattle.fixed.proofs.Runs.{flattened-append, length-flattened, clips-append, run-samples}
use Rattle.timing.specs.Lists.{Call, block, commit, state_by, taken_by, written_by, counted_by, clipped_by, state_after, taken, written, counted, clipped}

-- ---- a block

module _ (s : Sheet) (f : Frontend) (values out : List ℤ) where
  abbrev pub block_number : ℕ
  block_number = (first_of (block_faults s f (length values) (length out))).number

  -- its answer, once its refusal's number is known to be 0 or not
  pub answer-is : (b : Bool) → eqb block_number 0 ≡ b
      → block_of s f values out ≡ cond b (accepted s f values out)
      (record { refused = first_of (block_faults s f (length values) (length out)); state = f; taken = 0; count = 0; clips = 0; output = out })
  unfolding block_of
  answer-is b e = rw e

  abbrev pub pairs_of_block : List Pair
  pairs_of_block = take (block_of s f values out).taken (pairs_of values)

  -- what holds of the answer of a block that ran, and of a refused one's, holds of a block's
  pub of-either : (P : Block → Type 0) → P (accepted s f values out)
      → P (record { refused = first_of (block_faults s f (length values) (length out)); state = f; taken = 0; count = 0; clips = 0; output = out })
      → P (block_of s f values out)
  of-either P ran refused = go (eqb block_number 0) refl
    where
      go : (b : Bool) → eqb block_number 0 ≡ b → P (block_of s f values out)
      go true e = rw (answer-is true e) ran
      go false e = rw (answer-is false e) refused

  pub block-state : (block_of s f values out).state ≡ after s f pairs_of_block
  unfolding accepted after
  block-state = of-either (λ b. b.state ≡ after s f (take b.taken (pairs_of values))) refl refl

  pub block-count : (block_of s f values out).count ≡ length (emitted s f pairs_of_block)
  unfolding accepted emitted
  block-count = of-either (λ b. b.count ≡ length (emitted s f (take b.taken (pairs_of values)))) refl refl

  block-clips : (block_of s f values out).clips ≡ clips_of (emitted s f pairs_of_block)
  unfolding accepted emitted clips_of
  block-clips = of-either (λ b. b.clips ≡ clips_of (emitted s f (take b.taken (pairs_of values)))) refl refl

  block-output : take (20 * (block_of s f values out).count) (block_of s f values out).output ≡ flattened (emitted s f pairs_of_block)
  unfolding accepted emitted flattened
  block-output =
      let ys : List Symbol = emitted s f (take (pairs_taken (length values) (length out)) (pairs_of values)) in
      of-either (λ b. take (20 * b.count) b.output ≡ flattened (emitted s f (take b.taken (pairs_of values))))
      (take_at (flattened ys) (drop (20 * length ys) out) (20 * length ys) (length-flattened ys)) refl

-- ---- a commit

-- the state that it hands back, once its refusal's number is known to be 0 or not
pub commit-state : (s : Sheet) (ticket : ℕ) (f : Frontend) (b : Bool) → eqb (commit_of s ticket f).refused.number 0 ≡ b
    → (commit_of s ticket f).state ≡ cond b (retuned s.params f) f
unfolding commit_of
commit-state s ticket f b e = rw e

-- what holds of the state under the new sheet, and of the one given, holds of what a commit leaves
pub of-either-state : (s : Sheet) (ticket : ℕ) (f : Frontend) (P : Frontend → Type 0) → P (retuned s.params f) → P f → P (commit_of s ticket f).state
of-either-state s ticket f P took left = go (eqb (commit_of s ticket f).refused.number 0) refl
  where
    go : (b : Bool) → eqb (commit_of s ticket f).refused.number 0 ≡ b → P (commit_of s ticket f).state
    go true e = rw (commit-state s ticket f true e) took
    go false e = rw (commit-state s ticket f false e) left

-- ---- the symbols of a call, and of calls

abbrev pub made_by_call : Frontend → Call → List Symbol
made_by_call f (block s values out) = emitted s f (pairs_of_block s f values out)
made_by_call f (commit s ticket) = []

unfoldable pub made_in : Frontend → List Call → List Symbol
made_in f [] = []
made_in f (c ∷ cs) = made_by_call f c ++ made_in (state_by f c) cs

call-written : (f : Frontend) (c : Call) → written_by f c ≡ flattened (made_by_call f c)
unfolding flattened
call-written f (block s values out) = block-output s f values out
call-written f (commit s ticket) = refl

call-counted : (f : Frontend) (c : Call) → counted_by f c ≡ length (made_by_call f c)
call-counted f (block s values out) = block-count s f values out
call-counted f (commit s ticket) = refl

call-clipped : (f : Frontend) (c : Call) → clipped_by f c ≡ clips_of (made_by_call f c)
unfolding clips_of
call-clipped f (block s values out) = block-clips s f values out
call-clipped f (commit s ticket) = refl

pub calls-written : (f : Frontend) (cs : List Call) → written f cs ≡ flattened (made_in f cs)
unfolding written made_in flattened
calls-written f [] = refl
calls-written f (c ∷ cs) =
    rw (call-written f c, calls-written (state_by f c) cs) (sym (flattened-append (made_by_call f c) (made_in (state_by f c) cs)))

pub calls-counted : (f : Frontend) (cs : List Call) → counted f cs ≡ length (made_in f cs)
unfolding counted made_in
calls-counted f [] = refl
calls-counted f (c ∷ cs) =
    rw (call-counted f c, calls-counted (state_by f c) cs) (sym (length-append (made_by_call f c) (made_in (state_by f c) cs)))

pub calls-clipped : (f : Frontend) (cs : List Call) → clipped f cs ≡ clips_of (made_in f cs)
unfolding clipped made_in clips_of
calls-clipped f [] = refl
calls-clipped f (c ∷ cs) =
    rw (call-clipped f c, calls-clipped (state_by f c) cs) (sym (clips-append (made_by_call f c) (made_in (state_by f c) cs)))

-- ---- the samples that were counted

-- a commit counts none
pub commit-samples : (s : Sheet) (ticket : ℕ) (f : Frontend) → (commit_of s ticket f).state.samples ≡ f.samples
unfolding retuned
commit-samples s ticket f = of-either-state s ticket f (λ g. g.samples ≡ f.samples) refl refl

pub call-samples : (f : Frontend) (c : Call) → (state_by f c).samples ≡ f.samples + length (taken_by f c)
call-samples f (block s values out) = rw (block-state s f values out) (run-samples s f (pairs_of_block s f values out))
call-samples f (commit s ticket) = omega (arith, commit-samples s ticket f)

pub calls-samples : (f : Frontend) (cs : List Call) → (state_after f cs).samples ≡ f.samples + length (taken f cs)
unfolding state_after taken
calls-samples f [] = omega arith
calls-samples f (c ∷ cs) =
    omega (arith, calls-samples (state_by f c) cs, call-samples f c, length-append (taken_by f c) (taken (state_by f c) cs))
