-- Runs whose sheet may change from sample to sample: sample n goes through the path under the sheet Q n. A list of calls is such a run, over the samples that
-- its blocks took and under the sheets that these were given, with commits between them that change the held sheet alone; and no sample looks at that.
use Prim.Native.Nat.{ℕ, zero, suc, ◌+◌, ◌≤◌, ◌<◌}
use mathlib.Core.Path.{◌≡◌, refl, sym, ap, subst, ◌∙◌}
use mathlib.Core.Bool.{Bool, true, false}
use mathlib.Core.List.{List, [], ◌∷◌, ◌++◌, append_assoc}
use native.Mathlib.Omega.{arith}
use lib.ListN.{length, replicate, length-replicate}
use Rattle.params.specs.declared.Params.{Params}
use Rattle.params.specs.Judge.{Sheet}
use Rattle.state.specs.declared.Pair.{Pair}
use Rattle.state.specs.declared.Frontend.{Frontend}
use Rattle.symbol.specs.declared.Symbol.{Symbol}
use Rattle.retune.specs.Retune.{retuned}
use Rattle.fixed.specs.Sample.{found_in, symbol_of, joined, with_symbol, without_symbol, falls, next, made_by, after, emitted}
use Rattle.fixed.specs.Block.{block_of}
use Rattle.fixed.proofs.Runs.{next-samples}
use Rattle.timing.specs.Lists.{Call, block, commit, state_by, taken_by, state_after, taken}
use Rattle.timing.proofs.Calls.{pairs_of_block, block-state, of-either-state, made_by_call, made_in, call-samples}

-- ---- the sheets that a list's samples went through

abbrev pub given_by : Frontend → Call → List Sheet
given_by f (block s values out) = replicate (length (pairs_of_block s f values out)) s
given_by f (commit s ticket) = []

unfoldable pub given : Frontend → List Call → List Sheet
given f [] = []
given f (c ∷ cs) = given_by f c ++ given (state_by f c) cs

pub given-long : (f : Frontend) (c : Call) → length (given_by f c) ≡ length (taken_by f c)
given-long f (block s values out) = length-replicate (length (pairs_of_block s f values out)) s
given-long f (commit s ticket) = refl

-- ---- a sample leaves the held sheet, and does not look at it

module _ (p : Params) where
  retuned-made : (s : Sheet) (f : Frontend) (x : Pair) → made_by s (retuned p f) x ≡ made_by s f x
  unfolding made_by retuned joined symbol_of found_in
  retuned-made s f x = refl

  retuned-next : (s : Sheet) (f : Frontend) (x : Pair) → next s (retuned p f) x ≡ retuned p (next s f x)
  unfolding next retuned joined with_symbol without_symbol symbol_of found_in
  retuned-next s f x = go (falls f) refl
    where
      go : (b : Bool) → falls f ≡ b → next s (retuned p f) x ≡ retuned p (next s f x)
      go true e = rw e
      go false e = rw e

-- a state with its own held sheet, and with one that another is put over
own : (f : Frontend) → f ≡ retuned f.params f
unfolding retuned
own f = refl

twice : (p q : Params) (f : Frontend) → retuned p f ≡ retuned p (retuned q f)
unfolding retuned
twice p q f = refl

pub next-counts : (s : Sheet) (f : Frontend) (x : Pair) → (next s f x).samples ≡ suc f.samples
next-counts s f x = omega (arith, next-samples s f x)

-- ---- runs

module _ (Q : ℕ → Sheet) where
  unfoldable pub end_by : Frontend → List Pair → Frontend
  end_by f [] = f
  end_by f (x ∷ xs) = end_by (next (Q f.samples) f x) xs

  unfoldable pub run_by : Frontend → List Pair → List Symbol
  run_by f [] = []
  run_by f (x ∷ xs) = made_by (Q f.samples) f x ++ run_by (next (Q f.samples) f x) xs

  pub end-append : (f : Frontend) (xs ys : List Pair) → end_by f (xs ++ ys) ≡ end_by (end_by f xs) ys
  unfolding end_by
  end-append f [] ys = refl
  end-append f (x ∷ xs) ys = end-append (next (Q f.samples) f x) xs ys

  pub run-append : (f : Frontend) (xs ys : List Pair) → run_by f (xs ++ ys) ≡ run_by f xs ++ run_by (end_by f xs) ys
  unfolding end_by run_by
  run-append f [] ys = refl
  run-append f (x ∷ xs) ys =
      let s : Sheet = Q f.samples in
      ap (λ (l : List Symbol). made_by s f x ++ l) (run-append (next s f x) xs ys)
      ∙ sym (append_assoc (made_by s f x) (run_by (next s f x) xs) (run_by (end_by (next s f x) xs) ys))

  pub retuned-end : (p : Params) (f : Frontend) (xs : List Pair) → end_by (retuned p f) xs ≡ retuned p (end_by f xs)
  unfolding end_by retuned
  retuned-end p f [] = refl
  retuned-end p f (x ∷ xs) =
      let s : Sheet = Q f.samples in
      ap (λ (g : Frontend). end_by g xs) (retuned-next p s f x) ∙ retuned-end p (next s f x) xs

  pub retuned-run : (p : Params) (f : Frontend) (xs : List Pair) → run_by (retuned p f) xs ≡ run_by f xs
  unfolding run_by retuned
  retuned-run p f [] = refl
  retuned-run p f (x ∷ xs) =
      let s : Sheet = Q f.samples in
      (λ i. retuned-made p s f x i ++ run_by (retuned-next p s f x i) xs) ∙ ap (λ (l : List Symbol). made_by s f x ++ l) (retuned-run p (next s f x) xs)

  pub end-samples : (f : Frontend) (xs : List Pair) → (end_by f xs).samples ≡ f.samples + length xs
  unfolding end_by
  end-samples f [] = omega arith
  end-samples f (x ∷ xs) = omega (arith, end-samples (next (Q f.samples) f x) xs, next-counts (Q f.samples) f x)

  -- ---- a list of calls, as such a run

  -- the schedule has these sheets from sample n on
  abbrev pub Along : ℕ → List Sheet → Type 0
  Along n [] = Unit {0}
  Along n (s ∷ ss) = (Q n ≡ s) × Along (suc n) ss

  pub along-left : (n : ℕ) (a b : List Sheet) → Along n (a ++ b) → Along n a
  along-left n [] b l = tt
  along-left n (s ∷ a) b l = (l.0, along-left (suc n) a b l.1)

  pub along-right : (n : ℕ) (a b : List Sheet) → Along n (a ++ b) → Along (n + length a) b
  along-right n [] b l = let e : n ≡ n + 0 = omega arith in subst (λ (m : ℕ). Along m b) e l
  along-right n (s ∷ a) b l = let e : suc n + length a ≡ n + suc (length a) = omega arith in
      subst (λ (m : ℕ). Along m b) e (along-right (suc n) a b l.1)

  pub along-both : (n : ℕ) (a b : List Sheet) → Along n a → Along (n + length a) b → Along n (a ++ b)
  along-both n [] b l r = let e : n + 0 ≡ n = omega arith in subst (λ (m : ℕ). Along m b) e r
  along-both n (s ∷ a) b l r = let e : n + suc (length a) ≡ suc n + length a = omega arith in
      (l.0, along-both (suc n) a b l.1 (subst (λ (m : ℕ). Along m b) e r))

  -- one sheet throughout
  pub along_one : (n k : ℕ) (s : Sheet) → ((j : ℕ) → n ≤ j → j < n + k → Q j ≡ s) → Along n (replicate k s)
  along_one n zero s h = tt
  along_one n (suc k) s h = (h n (omega arith) (omega arith), along_one (suc n) k s (λ j l u. h j (omega arith) (omega arith)))

  -- behind a call
  pub behind : (f : Frontend) (c : Call) (ss : List Sheet) → Along f.samples (given_by f c ++ ss) → Along (state_by f c).samples ss
  behind f c ss l =
      let e : f.samples + length (given_by f c) ≡ (state_by f c).samples = omega (arith, call-samples f c, given-long f c) in
      subst (λ (m : ℕ). Along m ss) e (along-right f.samples (given_by f c) ss l)

  -- a block is a run under its sheet
  block_run : (s : Sheet) (f : Frontend) (xs : List Pair) → Along f.samples (replicate (length xs) s) → emitted s f xs ≡ run_by f xs
  unfolding emitted run_by
  block_run s f [] l = refl
  block_run s f (x ∷ xs) l =
      let on : Along (next s f x).samples (replicate (length xs) s) =
      subst (λ (m : ℕ). Along m (replicate (length xs) s)) (sym (next-counts s f x)) l.1 in
      (λ i. made_by s f x ++ block_run s (next s f x) xs on i) ∙ ap (λ (q : Sheet). made_by q f x ++ run_by (next q f x) xs) (sym l.0)

  block-end : (s : Sheet) (f : Frontend) (xs : List Pair) → Along f.samples (replicate (length xs) s) → after s f xs ≡ end_by f xs
  unfolding after end_by
  block-end s f [] l = refl
  block-end s f (x ∷ xs) l =
      let on : Along (next s f x).samples (replicate (length xs) s) =
      subst (λ (m : ℕ). Along m (replicate (length xs) s)) (sym (next-counts s f x)) l.1 in
      block-end s (next s f x) xs on ∙ ap (λ (q : Sheet). end_by (next q f x) xs) (sym l.0)

  -- so is a call, but for the sheet that a commit leaves
  call-run : (f : Frontend) (c : Call) → Along f.samples (given_by f c) → made_by_call f c ≡ run_by f (taken_by f c)
  unfolding run_by
  call-run f (block s values out) l = block_run s f (pairs_of_block s f values out) l
  call-run f (commit s ticket) l = refl

  call-end : (f : Frontend) (c : Call) → Along f.samples (given_by f c) → state_by f c ≡ retuned (state_by f c).params (end_by f (taken_by f c))
  unfolding end_by retuned
  call-end f (block s values out) l =
      let e : (block_of s f values out).state ≡ end_by f (pairs_of_block s f values out) =
      block-state s f values out ∙ block-end s f (pairs_of_block s f values out) l in
      own (block_of s f values out).state ∙ ap (retuned (block_of s f values out).state.params) e
  call-end f (commit s ticket) l = of-either-state s ticket f (λ g. g ≡ retuned g.params f) (twice s.params s.params f) (own f)

  -- and so is a list
  pub list-run : (f : Frontend) (cs : List Call) → Along f.samples (given f cs) → made_in f cs ≡ run_by f (taken f cs)
  unfolding made_in taken given run_by
  list-run f [] l = refl
  list-run f (c ∷ cs) l =
      let first = along-left f.samples (given_by f c) (given (state_by f c) cs) l in
      let rest = list-run (state_by f c) cs (behind f c (given (state_by f c) cs) l) in
      (λ i. call-run f c first i ++ rest i)
      ∙ ap (λ (l : List Symbol). run_by f (taken_by f c) ++ l)
      (ap (λ (g : Frontend). run_by g (taken (state_by f c) cs)) (call-end f c first)
      ∙ retuned-run (state_by f c).params (end_by f (taken_by f c)) (taken (state_by f c) cs))
      ∙ sym (run-append f (taken_by f c) (taken (state_by f c) cs))

  pub list-end : (f : Frontend) (cs : List Call) → Along f.samples (given f cs)
      → state_after f cs ≡ retuned (state_after f cs).params (end_by f (taken f cs))
  unfolding state_after taken given end_by
  list-end f [] l = own f
  list-end f (c ∷ cs) l =
      let first = along-left f.samples (given_by f c) (given (state_by f c) cs) l in
      let held : Params = (state_after (state_by f c) cs).params in
      let xs : List Pair = taken (state_by f c) cs in
      list-end (state_by f c) cs (behind f c (given (state_by f c) cs) l)
      ∙ ap (λ (g : Frontend). retuned held (end_by g xs)) (call-end f c first)
      ∙ ap (retuned held) (retuned-end (state_by f c).params (end_by f (taken_by f c)) xs)
      ∙ sym (twice held (state_by f c).params (end_by (end_by f (taken_by f c)) xs))
      ∙ ap (retuned held) (sym (end-append f (taken_by f c) xs))
