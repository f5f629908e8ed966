-- Numbers of a kind: where its least is 0 they have no sign, and those that fit the type are of it. Places that were looked at have each their kind, and
-- can be looked at in two parts.
use Prim.Native.Nat.{ℕ, zero, suc, ◌+◌, ◌<◌, ◌≤◌}
use mathlib.Core.Path.{◌≡◌, refl, sym, ap, ◌∙◌}
use mathlib.Core.Bool.{Bool, true, false, ◌&&◌, and-true, and-false, and_assoc, false≢true}
use mathlib.Core.List.{List, [], ◌∷◌, ◌++◌}
use native.Mathlib.Omega.{arith}
use lib.ListN.{length, get_or, take, drop}
use lib.Seq.{drop-cons}
use lib.IntN.{ℤ, pos, negsuc, nat_abs}
use Rattle.std.proofs.lemmas.Int.{ints}
use Rattle.arith.proofs.Both.{and_left, and_right, and_both}
use Rattle.arith.proofs.Order.{pos_part, neg_part, pn-le}
use Rattle.kinds.specs.declared.Kind.{Kind}
use Rattle.kinds.specs.declared.Kind.TheVariants.{U8, U32, I32, Count}
use Rattle.kinds.specs.Kinds.{at, least_of, most_of, is_kind, are_kinds, KindAt}

-- ---- a number of a kind

-- a kind whose least number is 0: without its sign a number is the same
pub own : (kind : Kind) (z : ℤ) → least_of kind ≡ pos 0 → is_kind kind z ≡ true → pos (nat_abs z) ≡ z
own kind (pos n) least e = refl
own kind (negsuc n) least e = absurd (false≢true (rw least at e))

pub count_small : (z : ℤ) → is_kind Count z ≡ true → nat_abs z ≤ 9223372036854775807
count_small (pos n) e = grind (arith, ints)
count_small (negsuc n) e = absurd (false≢true e)

-- ---- a number that fits the type is one of the kind

pub u8_is : (n : ℕ) → n < 256 → is_kind U8 (pos n) ≡ true
u8_is n h = grind (arith, ints)

pub u32-is : (n : ℕ) → n < 4294967296 → is_kind U32 (pos n) ≡ true
u32-is n h = grind (arith, ints)

pub i32-is : (z : ℤ) → pos_part z < 2147483648 + neg_part z → neg_part z ≤ 2147483648 + pos_part z → is_kind I32 z ≡ true
i32-is z high low = and_both (pn-le (least_of I32) z (omega arith)) (pn-le z (most_of I32) (omega arith))

-- ---- a place in front of those behind it

pub front : (l : List ℤ) (n : ℕ) → n < length l → {z : ℤ} {rest : List ℤ} → z ≡ at l n → rest ≡ drop (suc n) l → z ∷ rest ≡ drop n l
front l n h e k = (λ i. e i ∷ k i) ∙ sym (drop-cons l n (pos 0) h)

-- ---- places that were looked at

pub kind_at : (kinds : List Kind) (l : List ℤ) → are_kinds kinds l ≡ true → (n : ℕ) → n < length kinds → KindAt (get_or kinds n U8) l n
unfolding are_kinds
kind_at [] l e n h = absurd (omega arith)
kind_at (kind ∷ kinds) [] e n h = absurd (false≢true e)
kind_at (kind ∷ kinds) (z ∷ l) e zero h = record { inside = omega arith; is = and_left (is_kind kind z) _ e }
kind_at (kind ∷ kinds) (z ∷ l) e (suc n) h =
    let rest = kind_at kinds l (and_right (is_kind kind z) _ e) n (omega arith) in
    record { inside = omega arith; is = rest.is }

-- fewer places than kinds
pub too_few : (kinds : List Kind) (l : List ℤ) → length l < length kinds → are_kinds kinds l ≡ false
unfolding are_kinds
too_few [] l h = absurd (omega arith)
too_few (kind ∷ kinds) [] h = refl
too_few (kind ∷ kinds) (z ∷ l) h = rw (too_few kinds l (omega arith)) (and-false (is_kind kind z))

-- the places behind those that the kinds take are not looked at
pub places-taken : (kinds : List Kind) (l : List ℤ) → are_kinds kinds l ≡ are_kinds kinds (take (length kinds) l)
unfolding are_kinds
places-taken [] l = refl
places-taken (kind ∷ kinds) [] = refl
places-taken (kind ∷ kinds) (z ∷ l) = ap (λ (t : Bool). is_kind kind z && t) (places-taken kinds l)

-- ---- places that are looked at one after the other

-- whether the places so far are of their kinds was found, and the kinds and places that are left decide the rest
pub record SoFar (whole good : Bool) (kinds : List Kind) (l : List ℤ) : Type 0 where
  pub is : whole ≡ (good && are_kinds kinds l)
  pub long : length kinds ≡ length l

pub so-far-step : {whole good next : Bool} {kinds left : List Kind} {l rest : List ℤ} {kind : Kind} {z : ℤ} → SoFar whole good kinds l
    → kinds ≡ kind ∷ left → l ≡ z ∷ rest → next ≡ (good && is_kind kind z) → SoFar whole next left rest
unfolding are_kinds
so-far-step {good = good} {left = left} {rest = rest} {kind = kind} {z = z} s k v e = record {
  is = s.is ∙ (λ i. good && are_kinds (k i) (v i)) ∙ sym (and_assoc good (is_kind kind z) (are_kinds left rest)) ∙ ap (λ (t : Bool). t && are_kinds left rest) (sym e);
  long = omega (arith, rw (k, v) at s.long);
}

pub so-far-all : {whole good : Bool} {kinds : List Kind} {l : List ℤ} → SoFar whole good kinds l → kinds ≡ [] → good ≡ whole
unfolding are_kinds
so-far-all {good = good} {l = l} s k = sym (s.is ∙ (λ i. good && are_kinds (k i) l) ∙ and-true good)

-- ---- kinds in two parts

-- the first places are looked at by the first kinds, and those behind them by the others
pub kinds-append : (kinds others : List Kind) (l : List ℤ)
    → are_kinds (kinds ++ others) l ≡ (are_kinds kinds (take (length kinds) l) && are_kinds others (drop (length kinds) l))
unfolding are_kinds
kinds-append [] others l = refl
kinds-append (kind ∷ kinds) others [] = refl
kinds-append (kind ∷ kinds) others (z ∷ l) =
    ap (λ (t : Bool). is_kind kind z && t) (kinds-append kinds others l)
    ∙ sym (and_assoc (is_kind kind z) (are_kinds kinds (take (length kinds) l)) (are_kinds others (drop (length kinds) l)))
