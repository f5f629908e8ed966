-- Runs of samples: what a run does is what its parts do one after the other, the places of its symbols stand 20 by 20, and their clips add up.
-- All of it follows by going through the list from its head.
use Rattle.std.proofs.Common.{◌≡◌, ℕ, zero, suc, ◌+◌, ◌*◌, ◌<◌, Bool, true, false, List, [], ◌∷◌, ◌++◌, length, get_or, ℤ, pos, sym, refl, ap, ◌∙◌, append_assoc, arith, length-append, get_or-append-add}
use lib.ListN.{get_or-append}
use Rattle.params.specs.Judge.{Sheet}
use Rattle.state.specs.declared.Pair.{Pair}
use Rattle.state.specs.declared.Frontend.{Frontend}
use Rattle.symbol.specs.declared.Symbol.{Symbol}
use Rattle.symbol.specs.Places.{places_of}
use Rattle.fixed.specs.Sample.{joined, with_symbol, without_symbol, falls, next, made_by, after, emitted}
use Rattle.fixed.specs.Block.{flattened, clips_of}

module _ (s : Sheet) where
  pub after-append : (f : Frontend) (xs ys : List Pair) → after s f (xs ++ ys) ≡ after s (after s f xs) ys
  unfolding after
  after-append f [] ys = refl
  after-append f (x ∷ xs) ys = after-append (next s f x) xs ys

  pub emitted-append : (f : Frontend) (xs ys : List Pair) → emitted s f (xs ++ ys) ≡ emitted s f xs ++ emitted s (after s f xs) ys
  unfolding after emitted
  emitted-append f [] ys = refl
  emitted-append f (x ∷ xs) ys =
      ap (λ (l : List Symbol). made_by s f x ++ l) (emitted-append (next s f x) xs ys)
      ∙ sym (append_assoc (made_by s f x) (emitted s (next s f x) xs) (emitted s (after s (next s f x) xs) ys))

  -- each sample counts itself
  pub next-samples : (f : Frontend) (x : Pair) → (next s f x).samples ≡ f.samples + 1
  unfolding next joined with_symbol without_symbol
  next-samples f x = go (falls f) refl
    where
      go : (b : Bool) → falls f ≡ b → (next s f x).samples ≡ f.samples + 1
      go true e = rw e
      go false e = rw e

  pub run-samples : (f : Frontend) (xs : List Pair) → (after s f xs).samples ≡ f.samples + length xs
  unfolding after
  run-samples f [] = omega arith
  run-samples f (x ∷ xs) = omega (arith, run-samples (next s f x) xs, next-samples f x)

  -- and leaves the held sheet
  next-params : (f : Frontend) (x : Pair) → (next s f x).params ≡ f.params
  unfolding next joined with_symbol without_symbol
  next-params f x = go (falls f) refl
    where
      go : (b : Bool) → falls f ≡ b → (next s f x).params ≡ f.params
      go true e = rw e
      go false e = rw e

  pub run-params : (f : Frontend) (xs : List Pair) → (after s f xs).params ≡ f.params
  unfolding after
  run-params f [] = refl
  run-params f (x ∷ xs) = run-params (next s f x) xs ∙ next-params f x

-- ---- the clips of symbols

pub clips-append : (a b : List Symbol) → clips_of (a ++ b) ≡ clips_of a + clips_of b
unfolding clips_of
clips-append [] b = omega arith
clips-append (y ∷ a) b = omega (arith, clips-append a b)

-- ---- the places of symbols

pub flattened-append : (a b : List Symbol) → flattened (a ++ b) ≡ flattened a ++ flattened b
unfolding flattened
flattened-append [] b = refl
flattened-append (y ∷ a) b = ap (λ (l : List ℤ). places_of y ++ l) (flattened-append a b) ∙ sym (append_assoc (places_of y) (flattened a) (flattened b))

pub length-places : (y : Symbol) → length (places_of y) ≡ 20
unfolding places_of
length-places y = refl

pub length-flattened : (a : List Symbol) → length (flattened a) ≡ 20 * length a
unfolding flattened
length-flattened [] = refl
length-flattened (y ∷ a) = omega (arith, length-append (places_of y) (flattened a), length-places y, length-flattened a)

-- place j of symbol k
pub place-flattened : (a : List Symbol) (k j : ℕ) (d : Symbol) → k < length a → j < 20
    → get_or (flattened a) (20 * k + j) (pos 0) ≡ get_or (places_of (get_or a k d)) j (pos 0)
unfolding flattened
place-flattened [] k j d h l = absurd (omega arith)
place-flattened (y ∷ a) zero j d h l =
    let e : 20 * zero + j ≡ j = omega arith in
    rw e (get_or-append (places_of y) (flattened a) (pos 0) j (omega (arith, length-places y)))
place-flattened (y ∷ a) (suc k) j d h l =
    let e : 20 * suc k + j ≡ length (places_of y) + (20 * k + j) = omega (arith, length-places y) in
    rw e (get_or-append-add (places_of y) (flattened a) (20 * k + j) (pos 0) ∙ place-flattened a k j d (omega arith) l)
