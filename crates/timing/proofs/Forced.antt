-- The sheet in force at each sample of a list that keeps to its sheets is what its commits say: the last one that was made before this sample, or the
-- start's. So such a list is a run under a schedule that its accepted commits alone decide, up to a sample those up to it.
use Prim.Native.Nat.{ℕ, ◌+◌, ◌≤◌, ◌<◌}
use mathlib.Core.Path.{◌≡◌, refl, sym, ap, subst, ◌∙◌}
use mathlib.Core.Bool.{Bool, true, false, cond}
use mathlib.Core.List.{List, [], ◌∷◌, ◌++◌}
use native.Mathlib.Omega.{arith}
use lib.Dec.{leb, eqb}
use lib.ListN.{length, replicate}
use borrow.Author.Tests.{le-leb, lt-leb, leb-false, eqb-true}
use Rattle.params.specs.declared.Params.{Params}
use Rattle.params.specs.Judge.{Sheet}
use Rattle.state.specs.declared.Frontend.{Frontend}
use Rattle.retune.specs.Retune.{retuned, commit_of}
use Rattle.fixed.specs.Block.{block_of}
use Rattle.fixed.proofs.Refused.{number-first}
use Rattle.fixed.proofs.Runs.{run-params}
use Rattle.timing.specs.Lists.{Call, block, commit, CommitAt, state_by, taken_by, state_after, committed_by, commits, sheet_by, Keeps, KeepTo}
use Rattle.timing.specs.Timing.{up_to}
use Rattle.timing.proofs.Calls.{block_number, answer-is, pairs_of_block, block-state, commit-state, commit-samples, call-samples}
use Rattle.timing.proofs.Schedule.{given_by, given, given-long, Along, along-both, along_one}

-- ---- by the commits

unfoldable pub in_force : Sheet → List CommitAt → ℕ → Sheet
in_force s [] n = s
in_force s (m ∷ ms) n = in_force (cond (leb m.samples n) m.sheet s) ms n

-- the commits up to a sample decide
pub force-upto : (s : Sheet) (ms : List CommitAt) (m n : ℕ) → n ≤ m → in_force s (up_to m ms) n ≡ in_force s ms n
unfolding in_force up_to
force-upto s [] m n h = refl
force-upto s (c ∷ ms) m n h = go (leb c.samples m) refl (λ t. force-upto t ms m n h)
  where
    go : (b : Bool) → leb c.samples m ≡ b → ((t : Sheet) → in_force t (up_to m ms) n ≡ in_force t ms n) → in_force s (up_to m (c ∷ ms)) n ≡ in_force s (c ∷ ms) n
    go true e rest = rw e (rest (cond (leb c.samples n) c.sheet s))
    go false e rest =
        let late : leb c.samples n ≡ false = lt-leb c.samples n (omega (arith, leb-false c.samples m e)) in
        rw (e, late) (rest s)

pub force-alike : (s : Sheet) (a b : List CommitAt) (m n : ℕ) → up_to m a ≡ up_to m b → n ≤ m → in_force s a n ≡ in_force s b n
force-alike s a b m n e h = sym (force-upto s a m n h) ∙ ap (λ (l : List CommitAt). in_force s l n) e ∙ force-upto s b m n h

-- commits none of which was made before sample n
abbrev Later : ℕ → List CommitAt → Type 0
Later n [] = Unit {0}
Later n (m ∷ ms) = (n ≤ m.samples) × Later n ms

sooner : (n k : ℕ) (ms : List CommitAt) → n ≤ k → Later k ms → Later n ms
sooner n k [] h l = tt
sooner n k (m ∷ ms) h l = (omega (arith, l.0), sooner n k ms h l.1)

later-both : (n : ℕ) (a b : List CommitAt) → Later n a → Later n b → Later n (a ++ b)
later-both n [] b l r = r
later-both n (m ∷ a) b l r = (l.0, later-both n a b l.1 r)

force-before : (s : Sheet) (ms : List CommitAt) (k n : ℕ) → Later k ms → n < k → in_force s ms n ≡ s
unfolding in_force
force-before s [] k n l h = refl
force-before s (m ∷ ms) k n l h = rw (lt-leb m.samples n (omega (arith, l.0))) (force-before s ms k n l.1 h)

-- ---- of a list of calls

commit-later : (n : ℕ) (f : Frontend) (c : Call) → Later n (committed_by n f c)
commit-later n f (block s values out) = tt
commit-later n f (commit s ticket) = go (eqb (commit_of s ticket f).refused.number 0) refl
  where
    go : (b : Bool) → eqb (commit_of s ticket f).refused.number 0 ≡ b → Later n (committed_by n f (commit s ticket))
    go true e = rw e (omega arith, tt)
    go false e = rw e tt

commits-later : (n : ℕ) (f : Frontend) (cs : List Call) → Later n (commits n f cs)
unfolding commits
commits-later n f [] = tt
commits-later n f (c ∷ cs) =
    let k : ℕ = n + length (taken_by f c) in
    let rest : List CommitAt = commits k (state_by f c) cs in
    later-both n (committed_by n f c) rest (commit-later n f c) (sooner n k rest (omega arith) (commits-later k (state_by f c) cs))

module _ (Q : ℕ → Sheet) where
  -- the schedule is what the commits of the calls say, from the state's sample on
  abbrev Forced : Sheet → Frontend → List Call → Type 0
  Forced s f cs = (n : ℕ) → f.samples ≤ n → Q n ≡ in_force s (commits f.samples f cs) n

  -- behind a call
  forced-on : (s : Sheet) (f : Frontend) (c : Call) (cs : List Call) → Forced s f (c ∷ cs) → Forced (sheet_by s f c) (state_by f c) cs
  unfolding commits in_force
  forced-on s f (block t values out) cs e n h =
      let c : Call = block t values out in
      let same : f.samples + length (taken_by f c) ≡ (state_by f c).samples = sym (call-samples f c) in
      e n (omega (arith, call-samples f c)) ∙ ap (λ (m : ℕ). in_force s (commits m (state_by f c) cs) n) same
  forced-on s f (commit t ticket) cs e n h = go (eqb (commit_of t ticket f).refused.number 0) refl
    where
      g : Frontend
      g = (commit_of t ticket f).state

      same : f.samples + 0 ≡ g.samples
      same = omega (arith, commit-samples t ticket f)

      here : f.samples ≤ n
      here = omega (arith, commit-samples t ticket f)

      go : (b : Bool) → eqb (commit_of t ticket f).refused.number 0 ≡ b → Q n ≡ in_force (sheet_by s f (commit t ticket)) (commits g.samples g cs) n
      go true b =
          rw b ((rw (b, le-leb f.samples n here) at (e n here)) ∙ ap (λ (m : ℕ). in_force t (commits m g cs) n) same)
      go false b = rw b ((rw b at (e n here)) ∙ ap (λ (m : ℕ). in_force s (commits m g cs) n) same)

  -- a call's own samples: no commit is made between them
  call_along : (s : Sheet) (f : Frontend) (c : Call) (cs : List Call) → Keeps s f c → Forced s f (c ∷ cs) → Along Q f.samples (given_by f c)
  unfolding commits
  call_along s f (commit t ticket) cs k e = tt
  call_along s f (block t values out) cs k e = go (eqb (block_number t f values out) 0) refl
    where
      go : (b : Bool) → eqb (block_number t f values out) 0 ≡ b → Along Q f.samples (replicate (length (pairs_of_block t f values out)) t)
      go true b =
          let given : t ≡ s = k (number-first t f values out ∙ eqb-true _ 0 b) in
          let ms : List CommitAt = commits (f.samples + length (pairs_of_block t f values out)) (block_of t f values out).state cs in
          along_one Q f.samples (length (pairs_of_block t f values out)) t (λ j l u.
          e j l ∙ force-before s ms (f.samples + length (pairs_of_block t f values out)) j
          (commits-later (f.samples + length (pairs_of_block t f values out)) (block_of t f values out).state cs) u ∙ sym given)
      go false b = rw (answer-is t f values out false b) tt

  pub keeps-along : (s : Sheet) (f : Frontend) (cs : List Call) → KeepTo s f cs → Forced s f cs → Along Q f.samples (given f cs)
  unfolding KeepTo given
  keeps-along s f [] k e = tt
  keeps-along s f (c ∷ cs) k e =
      let rest = keeps-along (sheet_by s f c) (state_by f c) cs k.1 (forced-on s f c cs e) in
      let here : (state_by f c).samples ≡ f.samples + length (given_by f c) = omega (arith, call-samples f c, given-long f c) in
      along-both Q f.samples (given_by f c) (given (state_by f c) cs) (call_along s f c cs k.0 e)
      (subst (λ (m : ℕ). Along Q m (given (state_by f c) cs)) here rest)

-- ---- the sheet that is held in the end

unfoldable pub last_fields : Params → List CommitAt → Params
last_fields p [] = p
last_fields p (m ∷ ms) = last_fields m.sheet.params ms

last-append : (p : Params) (a b : List CommitAt) → last_fields p (a ++ b) ≡ last_fields (last_fields p a) b
unfolding last_fields
last-append p [] b = refl
last-append p (m ∷ a) b = last-append m.sheet.params a b

call-fields : (n : ℕ) (f : Frontend) (c : Call) → (state_by f c).params ≡ last_fields f.params (committed_by n f c)
unfolding last_fields retuned
call-fields n f (block s values out) = rw (block-state s f values out) (run-params s f (pairs_of_block s f values out))
call-fields n f (commit s ticket) = go (eqb (commit_of s ticket f).refused.number 0) refl
  where
    go : (b : Bool) → eqb (commit_of s ticket f).refused.number 0 ≡ b
        → (commit_of s ticket f).state.params ≡ last_fields f.params (committed_by n f (commit s ticket))
    go true e = rw (commit-state s ticket f true e, e)
    go false e = rw (commit-state s ticket f false e, e)

pub list-fields : (n : ℕ) (f : Frontend) (cs : List Call) → (state_after f cs).params ≡ last_fields f.params (commits n f cs)
unfolding state_after commits last_fields
list-fields n f [] = refl
list-fields n f (c ∷ cs) =
    let k : ℕ = n + length (taken_by f c) in
    list-fields k (state_by f c) cs ∙ ap (λ (p : Params). last_fields p (commits k (state_by f c) cs)) (call-fields n f c)
    ∙ sym (last-append f.params (committed_by n f c) (commits k (state_by f c) cs))
