-- Numbers in pairs: how many they make, which, that taking apart and putting together undo each other, and loops that do the one or the other.
use Prim.Native.Nat.{ℕ, zero, suc, ◌+◌, ◌*◌, ◌/◌, ◌%◌, ◌≤◌, ◌<◌}
use mathlib.Core.Path.{◌≡◌, refl, sym, ap, ◌∙◌}
use mathlib.Core.List.{List, [], ◌∷◌, ◌++◌, append-nil}
use native.Mathlib.Omega.{arith}
use lib.ListN.{length, get_or, set, take, drop, length-set, drop_of_length-le}
use lib.Seq.{take_all, paste, paste-zero, paste-suc}
use lib.IntN.{ℤ, pos}
use Rattle.std.proofs.lemmas.List.{same_lists}
use Rattle.std.proofs.lemmas.List.Edits.{fill_by_more}
use Rattle.kinds.specs.Kinds.{at}
use Rattle.places.specs.States.{in_pairs, flat_pairs}

-- ---- what two numbers make

module _ {A : Type 0} (of : ℤ → ℤ → A) where
  in-pairs-long : (l : List ℤ) → length (in_pairs of l) ≡ length l / 2
  unfolding in_pairs
  in-pairs-long [] = refl
  in-pairs-long (a ∷ []) = refl
  in-pairs-long (a ∷ b ∷ l) = omega (arith, in-pairs-long l)

  in-pairs-at : (d : A) (l : List ℤ) (n : ℕ) → n < length l / 2 → get_or (in_pairs of l) n d ≡ of (at l (2 * n)) (at l (2 * n + 1))
  unfolding in_pairs
  in-pairs-at d [] n h = absurd (omega arith)
  in-pairs-at d (a ∷ []) n h = absurd (omega arith)
  in-pairs-at d (a ∷ b ∷ l) zero h = refl
  in-pairs-at d (a ∷ b ∷ l) (suc n) h =
      let e : 2 * suc n ≡ suc (suc (2 * n)) = omega arith in
      let k : 2 * suc n + 1 ≡ suc (suc (2 * n + 1)) = omega arith in
      rw (k, e) (in-pairs-at d l n (omega arith))

-- What a loop that reads two numbers a turn has made after n of them: a list of which the first n are filled.
abbrev pub Taken : {A : Type 0} → (ℤ → ℤ → A) → List ℤ → ℕ → List A → Type 0
Taken {A} of l n a = (m : ℕ) (d : A) → m < n → get_or a m d ≡ of (at l (2 * m)) (at l (2 * m + 1))

pub taken_next : {A : Type 0} (of : ℤ → ℤ → A) (l : List ℤ) (n : ℕ) (a : List A) {x : A} → Taken of l n a → n < length a
    → x ≡ of (at l (2 * n)) (at l (2 * n + 1)) → Taken of l (n + 1) (set a n x)
taken_next of l n a {x} t h e =
    rw e (λ m d k. fill_by_more (λ i. of (at l (2 * i)) (at l (2 * i + 1))) a n d h (λ i j. t i d j) m k)

pub taken-all : {A : Type 0} (of : ℤ → ℤ → A) (l : List ℤ) (n : ℕ) (a : List A) → Taken of l n a → length a ≤ n → length l ≡ 2 * length a → a ≡ in_pairs of l
taken-all of l n a t all long =
    same_lists a (in_pairs of l) (omega (arith, in-pairs-long of l)) (λ m d h. t m d (omega arith) ∙ sym (in-pairs-at of d l m (omega arith)))

-- ---- two numbers of each

module _ {A : Type 0} (first second : A → ℤ) where
  pub flat-long : (xs : List A) → length (flat_pairs first second xs) ≡ 2 * length xs
  unfolding flat_pairs
  flat-long [] = refl
  flat-long (x ∷ xs) = omega (arith, flat-long xs)

  flat-first : (z : A) (xs : List A) (n : ℕ) → n < length xs → at (flat_pairs first second xs) (2 * n) ≡ first (get_or xs n z)
  unfolding flat_pairs
  flat-first z [] n h = absurd (omega arith)
  flat-first z (x ∷ xs) zero h = refl
  flat-first z (x ∷ xs) (suc n) h =
      let e : 2 * suc n ≡ suc (suc (2 * n)) = omega arith in
      rw e (flat-first z xs n (omega arith))

  flat-second : (z : A) (xs : List A) (n : ℕ) → n < length xs → at (flat_pairs first second xs) (suc (2 * n)) ≡ second (get_or xs n z)
  unfolding flat_pairs
  flat-second z [] n h = absurd (omega arith)
  flat-second z (x ∷ xs) zero h = refl
  flat-second z (x ∷ xs) (suc n) h =
      let e : suc (2 * suc n) ≡ suc (suc (suc (2 * n))) = omega arith in
      rw e (flat-second z xs n (omega arith))

  -- two numbers more, behind those that are pasted
  paste-two : (l : List ℤ) (z : A) (xs : List A) (n : ℕ) → n < length xs → 2 * length xs ≤ length l
      → set (set (paste l 0 (flat_pairs first second xs) (2 * n)) (2 * n) (first (get_or xs n z))) (2 * n + 1) (second (get_or xs n z))
      ≡ paste l 0 (flat_pairs first second xs) (2 * (n + 1))
  paste-two l z xs n h enough =
      let y : List ℤ = flat_pairs first second xs in
      let x : A = get_or xs n z in
      let here : 2 * n ≡ 0 + 2 * n = omega arith in
      let behind : 2 * n + 1 ≡ 0 + suc (2 * n) = omega arith in
      let two : suc (suc (2 * n)) ≡ 2 * (n + 1) = omega arith in
      let once : List ℤ = paste l 0 y (suc (2 * n)) in
      ap (λ (v : ℤ). set (set (paste l 0 y (2 * n)) (2 * n) v) (2 * n + 1) (second x)) (sym (flat-first z xs n h))
      ∙ ap (λ (i : ℕ). set (set (paste l 0 y (2 * n)) i (at y (2 * n))) (2 * n + 1) (second x)) here
      ∙ ap (λ (p : List ℤ). set p (2 * n + 1) (second x)) (paste-suc l 0 y (2 * n) (pos 0) (omega arith) (omega (arith, flat-long xs)))
      ∙ ap (λ (v : ℤ). set once (2 * n + 1) v) (sym (flat-second z xs n h))
      ∙ ap (λ (i : ℕ). set once i (at y (suc (2 * n)))) behind
      ∙ paste-suc l 0 y (suc (2 * n)) (pos 0) (omega arith) (omega (arith, flat-long xs))
      ∙ ap (λ (m : ℕ). paste l 0 y m) two

-- What a loop that writes two numbers a turn has made of l after n of them: those of the first n stand in it, and it is as long as it was.
pub record Put {A : Type 0} (first second : A → ℤ) (xs : List A) (l : List ℤ) (n : ℕ) (p : List ℤ) : Type 0 where
  pub long : length p ≡ length l
  pub pasted : p ≡ paste l 0 (flat_pairs first second xs) (2 * n)

module _ {A : Type 0} (first second : A → ℤ) (xs : List A) (l : List ℤ) where
  pub put-none : Put first second xs l 0 l
  put-none = record { long = refl; pasted = paste-zero l 0 (flat_pairs first second xs) }

  pub put_next : {n : ℕ} {p : List ℤ} (z : A) {a b : ℤ} → Put first second xs l n p → n < length xs → length l ≡ 2 * length xs
      → a ≡ first (get_or xs n z) → b ≡ second (get_or xs n z) → Put first second xs l (n + 1) (set (set p (2 * n) a) (2 * n + 1) b)
  put_next {n} {p} z {a} {b} w h long e k =
      record {
        long = length-set (set p (2 * n) a) (2 * n + 1) b ∙ length-set p (2 * n) a ∙ w.long;
        pasted = rw (e, k, w.pasted) (paste-two first second l z xs n h (omega arith));
      }

  pub put_all : {n : ℕ} {p : List ℤ} → Put first second xs l n p → n ≡ length xs → length l ≡ 2 * length xs → p ≡ flat_pairs first second xs
  put_all {n} {p} w all long =
      let y : List ℤ = flat_pairs first second xs in
      let none : drop (0 + 2 * n) l ≡ [] = drop_of_length-le l {i = 0 + 2 * n} (omega arith) in
      w.pasted ∙ ap (λ (q : List ℤ). take (2 * n) y ++ q) none ∙ append-nil (take (2 * n) y)
      ∙ take_all (2 * n) y (omega (arith, flat-long first second xs))

-- ---- one undoes the other

module _ {A : Type 0} (of : ℤ → ℤ → A) (first second : A → ℤ) where
  pub in-flat : ((x : A) → of (first x) (second x) ≡ x) → (xs : List A) → in_pairs of (flat_pairs first second xs) ≡ xs
  unfolding in_pairs flat_pairs
  in-flat e [] = refl
  in-flat e (x ∷ xs) = λ i. e x i ∷ in-flat e xs i

  pub flat_in : ((a b : ℤ) → first (of a b) ≡ a) → ((a b : ℤ) → second (of a b) ≡ b) → (l : List ℤ) → length l % 2 ≡ 0
      → flat_pairs first second (in_pairs of l) ≡ l
  unfolding in_pairs flat_pairs
  flat_in e k [] h = refl
  flat_in e k (a ∷ []) h = absurd (omega arith)
  flat_in e k (a ∷ b ∷ l) h = λ i. e a b i ∷ k a b i ∷ flat_in e k l (omega arith) i
