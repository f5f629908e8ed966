-- Where a byte first stands, and where a line ends.
use mathlib.Core.Path.{◌≡◌, refl, sym, ap, ◌∙◌}
use mathlib.Core.List.{List, [], ◌∷◌, ◌++◌}
use mathlib.Core.Bool.{Bool, true, false, cond, not}
use Prim.Native.Nat.{ℕ, zero, suc, min, ◌+◌, ◌≤◌, ◌<◌}
use native.Mathlib.Decide.{dec_le}
use native.Mathlib.Omega.{arith}
use lib.Dec.{ltb, eqb}
use lib.ListN.{length, take, length-append}
use borrow.Author.Tests.{lt-ltb, le-ltb}
use Rattle.std.specs.Prelude.{◌==◌, Some, None}
use Rattle.std.proofs.lemmas.Bool.Decides.{nat_tests}
use Rattle.std.specs.List.{position, position_or_len}
use Rattle.std.proofs.lemmas.List.{length-take}
use Rattle.text.specs.declared.LineEnd.TheVariants.{After, TooLong, Open}
use Rattle.text.specs.Lines.{before, line_end_of, Settled}

-- ---- the first x

pub take-before : (x : ℕ) (l : List ℕ) → take (length (before x l)) l ≡ before x l
unfolding before
take-before x [] = refl
take-before x (b ∷ t) = go (eqb b x) (take-before x t)
  where
    go : (q : Bool) → take (length (before x t)) t ≡ before x t → take (length (cond q [] (b ∷ before x t))) (b ∷ t) ≡ cond q [] (b ∷ before x t)
    go true e = refl
    go false e = ap (λ (u : List ℕ). b ∷ u) e

-- The bytes before the first x are those up to where x first stands, also of a front of the bytes.
pub before_is : (x : ℕ) (l : List ℕ) → length (before x l) ≡ position_or_len (λ b. b == x) l
unfolding before
before_is x [] = refl
before_is x (b ∷ t) = go (eqb b x) (before_is x t)
  where
    go : (q : Bool) → length (before x t) ≡ position_or_len (λ b. b == x) t
        → length (cond q [] (b ∷ before x t)) ≡ cond (not q) (1 + position_or_len (λ b. b == x) t) 0
    go true e = refl
    go false e = omega arith

pub before-take : (x m : ℕ) (l : List ℕ) → length (before x (take m l)) ≡ min m (length (before x l))
unfolding before
before-take x zero l = omega arith
before-take x (suc m) [] = omega arith
before-take x (suc m) (b ∷ t) = go (eqb b x) (before-take x m t)
  where
    go : (q : Bool) → length (before x (take m t)) ≡ min m (length (before x t))
        → length (cond q [] (b ∷ before x (take m t))) ≡ min (suc m) (length (cond q [] (b ∷ before x t)))
    go true e = omega arith
    go false e = omega arith

-- What `position` says of it.
pub position-some : (k m n : ℕ) → cond (ltb k m) (Some k) None ≡ Some n → (k ≡ n) × (k < m)
position-some k m n e = grind (arith, nat_tests)

pub position-none : (k m : ℕ) → cond (ltb k m) (Some k) None ≡ None → m ≤ k
position-none k m e = grind (arith, nat_tests)

-- ---- where a line ends

module _ (s : List ℕ) (i : ℕ) where
  pub ends-after : length (before 10 s) ≡ i → i ≤ 1024 → i < length s → After i ≡ line_end_of s
  unfolding line_end_of
  ends-after e h l = rw (e, le-ltb 1024 i h, lt-ltb i (length s) l)

  pub ends-too-long : length (before 10 s) ≡ i → 1024 < i → TooLong ≡ line_end_of s
  unfolding line_end_of
  ends-too-long e h = rw (e, lt-ltb 1024 i h)

  pub ends_open : length (before 10 s) ≡ i → i ≤ 1024 → length s ≤ i → Open ≡ line_end_of s
  unfolding line_end_of
  ends_open e h l = rw (e, le-ltb 1024 i h, le-ltb i (length s) l)

-- A line's end is where the first line feed stands among the bytes that a line may have, and one more.
module _ (s : List ℕ) (most : ℕ) (is-most : most ≡ min (length s) 1025) where
  among : length (take most s) ≡ most
  among = omega (arith, length-take most s)

  first-is : position_or_len (λ b. b == 10) (take most s) ≡ min most (length (before 10 s))
  first-is = sym (before_is 10 (take most s)) ∙ before-take 10 most s

  inside : length (before 10 s) ≤ length s
  inside = omega (arith, ap (λ (l : List ℕ). length l) (take-before 10 s), length-take (length (before 10 s)) s)

  pub ends_some : (n : ℕ) → position (λ b. b == 10) (take most s) ≡ Some n → After n ≡ line_end_of s
  ends_some n e =
      let f = position-some (position_or_len (λ b. b == 10) (take most s)) (length (take most s)) n e in
      ends-after s n (omega (arith, f, first-is, among)) (omega (arith, f, among)) (omega (arith, f, among))

  pub ends_none : position (λ b. b == 10) (take most s) ≡ None → (1024 < most → TooLong ≡ line_end_of s) × (most ≤ 1024 → Open ≡ line_end_of s)
  ends_none e =
      let f = position-none (position_or_len (λ b. b == 10) (take most s)) (length (take most s)) e in (
        λ (h : 1024 < most). ends-too-long s (length (before 10 s)) refl (omega (arith, f, first-is, among)),
        λ (h : most ≤ 1024). ends_open s (length (before 10 s)) refl (omega (arith, f, first-is, among, inside)) (omega (arith, f, first-is, among)),
      )

-- With more bytes behind, an x that was found is still the first, and one that was not is no nearer.
before_more : (x : ℕ) (a b : List ℕ) → length (before x a) < length a → before x (a ++ b) ≡ before x a
unfolding before
before_more x [] b h = absurd (omega arith)
before_more x (c ∷ t) b h = go (eqb c x) h (λ (k : length (before x t) < length t). before_more x t b k)
  where
    go : (q : Bool) → length (cond q [] (c ∷ before x t)) < suc (length t) → (length (before x t) < length t → before x (t ++ b) ≡ before x t)
        → cond q [] (c ∷ before x (t ++ b)) ≡ cond q [] (c ∷ before x t)
    go true k f = refl
    go false k f = ap (λ (l : List ℕ). c ∷ l) (f (omega arith))

before-grows : (x : ℕ) (a b : List ℕ) → length (before x a) ≤ length (before x (a ++ b))
unfolding before
before-grows x [] b = omega arith
before-grows x (c ∷ t) b = go (eqb c x) (before-grows x t b)
  where
    go : (q : Bool) → length (before x t) ≤ length (before x (t ++ b)) → length (cond q [] (c ∷ before x t)) ≤ length (cond q [] (c ∷ before x (t ++ b)))
    go true k = omega arith
    go false k = omega arith

pub settled : Settled
settled a b not-open = elim (dec_le (suc 1024) (length (before 10 a))) [
  | yes l ↦ sym (ends-too-long (a ++ b) (length (before 10 (a ++ b))) refl (omega (arith, before-grows 10 a b))) ∙ ends-too-long a (length (before 10 a)) refl l
  | no s ↦ elim (dec_le (length a) (length (before 10 a))) [
    | yes l ↦ absurd (not-open (sym (ends_open a (length (before 10 a)) refl (omega arith) l)))
    | no f ↦
        let k : length (before 10 a) < length a = omega arith in
        let e : length (before 10 (a ++ b)) ≡ length (before 10 a) = ap (λ (l : List ℕ). length l) (before_more 10 a b k) in
        sym (ends-after (a ++ b) (length (before 10 a)) e (omega arith) (omega (arith, length-append a b)))
        ∙ ends-after a (length (before 10 a)) refl (omega arith) k
  ]
]
