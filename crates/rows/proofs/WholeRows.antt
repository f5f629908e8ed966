-- The rows of an input, whose bytes may come in pieces: those of some bytes and then of others are those of the first, and those of the others from where
-- these leave off. A byte is the shortest piece.
use Rattle.std.proofs.Common.{◌≡◌, ℕ, ℤ, ◌+◌, ◌<◌, Bool, true, false, cond, Option, None, Some, refl, sym, ap, ◌∙◌, subst}
use Rattle.std.proofs.Common.{List, [], ◌∷◌, ◌++◌, take, length, get_or, append_assoc}
use Rattle.std.proofs.lemmas.List.{take_more}
use Rattle.std.specs.List.{FoldsTo}
use Rattle.std.specs.Io.KnownBytes.{Consumes}
use Rattle.rows.specs.Rows.{ReadRow, with_byte}
use Rattle.rows.specs.Program.{numbers_of, opened, after, with_ended, rows_in}

-- a piece behind some bytes
ended-append : (e : Bool) (r : Option (List ℤ)) (rs more : List (Option (List ℤ))) → cond e (r ∷ (rs ++ more)) (rs ++ more) ≡ cond e (r ∷ rs) rs ++ more
ended-append true r rs more = refl
ended-append false r rs more = refl

rows-append : (xs ys : List ℕ) (s : ReadRow) → rows_in s (xs ++ ys) ≡ rows_in s xs ++ rows_in (after s xs) ys
unfolding rows_in after
rows-append [] ys s = refl
rows-append (x ∷ xs) ys s =
    let u : ReadRow = with_byte (opened s) x in
    ap (λ (rs : List (Option (List ℤ))). with_ended u rs) (rows-append xs ys u)
    ∙ ended-append u.cursor.ended (numbers_of u.cursor.column u.row) (rows_in u xs) (rows_in (after u xs) ys)

after-append : (xs ys : List ℕ) (s : ReadRow) → after s (xs ++ ys) ≡ after (after s xs) ys
unfolding after
after-append [] ys s = refl
after-append (x ∷ xs) ys s = after-append xs ys (with_byte (opened s) x)

-- the same where the places of the row that these leave have names of their own
pub after-both : (xs ys : List ℕ) (s t u : ReadRow) → t ≡ after s xs → u ≡ after t ys → u ≡ after s (xs ++ ys)
after-both xs ys s t u p q = q ∙ ap (λ (r : ReadRow). after r ys) p ∙ sym (after-append xs ys s)

pub rows-both : (xs ys : List ℕ) (s t : ReadRow) → t ≡ after s xs → rows_in s (xs ++ ys) ≡ rows_in s xs ++ rows_in t ys
rows-both xs ys s t p = rows-append xs ys s ∙ ap (λ (r : ReadRow). rows_in s xs ++ rows_in r ys) (sym p)

module _ {P A : Type 0} (R : P → A → P → Type 0) where
  pub FoldsTo-same : (xs ys : List A) (p q : P) → xs ≡ ys → FoldsTo R p ys q → FoldsTo R p xs q
  FoldsTo-same xs ys p q e h = subst (λ (l : List A). FoldsTo R p l q) (sym e) h

  pub FoldsTo-append : (xs ys : List A) (p q r : P) → FoldsTo R p xs q → FoldsTo R q ys r → FoldsTo R p (xs ++ ys) r
  FoldsTo-append [] ys p q r h k = subst (λ (z : P). FoldsTo R z ys r) (sym h) k
  FoldsTo-append (x ∷ xs) ys p q r h k = (h.0, h.1, FoldsTo-append xs ys h.0 q r h.2 k)

-- one byte more of a piece
module _ {P : Type 0} (T : P → Option (List ℤ) → P → Type 0) (bytes : List ℕ) (i : ℕ) (first s t : ReadRow) (p q : P) (h : i < length bytes)
    (place : s ≡ after first (take i bytes)) (is : t ≡ with_byte (opened s) (get_or bytes i 0)) where
  pub place-more : t ≡ after first (take (i + 1) bytes)
  unfolding after
  place-more =
      is ∙ ap (λ (r : ReadRow). with_byte (opened r) (get_or bytes i 0)) place
      ∙ sym (ap (after first) (take_more bytes i 0 h) ∙ after-append (take i bytes) (get_or bytes i 0 ∷ []) first)

  rows-more : rows_in first (take (i + 1) bytes) ≡ rows_in first (take i bytes) ++ with_ended t []
  unfolding rows_in
  rows-more =
      ap (rows_in first) (take_more bytes i 0 h) ∙ rows-append (take i bytes) (get_or bytes i 0 ∷ []) first
      ∙ ap (λ (r : ReadRow). rows_in first (take i bytes) ++ with_ended (with_byte (opened r) (get_or bytes i 0)) []) (sym place)
      ∙ ap (λ (r : ReadRow). rows_in first (take i bytes) ++ with_ended r []) (sym is)

  pub taken-more : (e : Bool) (r : P) → t.cursor.ended ≡ e → FoldsTo T p (rows_in first (take i bytes)) q
      → FoldsTo T q (cond e (numbers_of t.cursor.column t.row ∷ []) []) r → FoldsTo T p (rows_in first (take (i + 1) bytes)) r
  taken-more e r is-ended f k =
      let same : with_ended t [] ≡ cond e (numbers_of t.cursor.column t.row ∷ []) [] =
      ap (λ (x : Bool). cond x (numbers_of t.cursor.column t.row ∷ []) []) is-ended in
      FoldsTo-same T (rows_in first (take (i + 1) bytes)) (rows_in first (take i bytes) ++ with_ended t []) p r rows-more
      (FoldsTo-append T (rows_in first (take i bytes)) (with_ended t []) p q r f (FoldsTo-same T (with_ended t []) _ q r same k))

-- what a reader has given of the bytes that are known
pub Consumes-none : (a : Option (List ℕ)) → Consumes a a []
Consumes-none None = tt
Consumes-none (Some x) = refl

pub Consumes-more : (a b c : Option (List ℕ)) (xs ys : List ℕ) → Consumes a b xs → Consumes b c ys → Consumes a c (xs ++ ys)
Consumes-more None b c xs ys h k = tt
Consumes-more (Some x) None c xs ys h k = absurd h
Consumes-more (Some x) (Some y) None xs ys h k = absurd k
Consumes-more (Some x) (Some y) (Some z) xs ys h k = h ∙ ap (λ (l : List ℕ). xs ++ l) k ∙ sym (append_assoc xs ys z)
