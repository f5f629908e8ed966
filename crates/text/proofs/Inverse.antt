-- Reading and printing are inverse: one digit behind others is one digit more of the number, and a number of several digits is its tenth part and a digit.
use mathlib.Core.Path.{◌≡◌, refl, sym, ap, ◌∙◌}
use mathlib.Core.List.{List, [], ◌∷◌, ◌++◌, append_assoc, append-nil}
use mathlib.Core.Bool.{Bool, true, false, cond, not, ◌&&◌, false≢true}
use Prim.Native.Nat.{ℕ, zero, suc, ◌+◌, ◌-◌, ◌*◌, ◌/◌, ◌%◌, ◌≤◌, ◌<◌}
use native.Mathlib.Decide.{dec_le}
use native.Mathlib.Omega.{arith}
use lib.Dec.{ltb, eqb}
use lib.IntN.{ℤ, pos, negsuc}
use borrow.Author.Tests.{le-ltb, ne_eqb, eqb-true, eqb-false, ltb-false}
use Rattle.std.specs.Prelude.{Option, Some, None, Err}
use Rattle.kinds.specs.declared.FieldError.{FieldError}
use Rattle.kinds.specs.declared.FieldError.TheVariants.{Malformed, OutOfRange}
use Rattle.text.specs.Fields.{is_digit, digits_after, nothing_after_zero, numeral, plain, negative, field_in, wrong_form, outside, holds}
use Rattle.print.specs.Number.{decimal, text_of}
use Rattle.text.specs.Inverse.{Within, Inverse}
use Rattle.print.proofs.Digits as W

-- ---- what is printed is read

-- One digit behind others.
abbrev then : ℕ → Option ℕ → Option ℕ
then d None = None
then d (Some v) = Some (v * 10 + d)

is_digit_lem : (d : ℕ) → d < 10 → is_digit (48 + d) ≡ true
is_digit_lem d h = rw (le-ltb (48 + d) 48 (omega arith), le-ltb 57 (48 + d) (omega arith)) refl

digit-behind : (v d : ℕ) (l : List ℕ) → d < 10 → digits_after v (l ++ ((48 + d) ∷ [])) ≡ then d (digits_after v l)
unfolding digits_after
digit-behind v d [] h =
    let e : 48 + d - 48 ≡ d = omega arith in
    rw (is_digit_lem d h, e) refl
digit-behind v d (b ∷ t) h = go (is_digit b) (digit-behind (v * 10 + (b - 48)) d t h)
  where
    go : (q : Bool) → digits_after (v * 10 + (b - 48)) (t ++ ((48 + d) ∷ [])) ≡ then d (digits_after (v * 10 + (b - 48)) t)
        → cond q (digits_after (v * 10 + (b - 48)) (t ++ ((48 + d) ∷ []))) None ≡ then d (cond q (digits_after (v * 10 + (b - 48)) t) None)
    go true e = e
    go false e = refl

-- Here and below k is only more than n, for the recursion.
reads-digits : (k n : ℕ) → n < k → digits_after 0 (decimal n) ≡ Some n
unfolding digits_after
reads-digits zero n h = absurd (omega arith)
reads-digits (suc k) n h = elim (dec_le 10 n) [
  | yes t ↦
      ap (λ (l : List ℕ). digits_after 0 l) (W.more-digits n t)
      ∙ digit-behind 0 (n % 10) (decimal (n / 10)) (omega arith)
      ∙ ap (λ (w : Option ℕ). then (n % 10) w) (reads-digits k (n / 10) (omega arith))
      ∙ ap Some (omega arith)
  | no t ↦
      let u : n < 10 = omega arith in
      ap (λ (l : List ℕ). digits_after 0 l) (W.one-digit n u) ∙ digit-behind 0 n [] u ∙ ap Some (omega arith)
]

-- The first digit, which is 0 only of 0.
abbrev First : ℕ → Type 0
First n = (d : ℕ) × (t : List ℕ) × (decimal n ≡ (48 + d) ∷ t) × (d < 10) × (0 < n → 0 < d)

first : (k n : ℕ) → n < k → First n
first zero n h = absurd (omega arith)
first (suc k) n h = elim (dec_le 10 n) [
  | yes t ↦
      let f = first k (n / 10) (omega arith) in
      (f.0, f.1 ++ ((48 + n % 10) ∷ []), W.more-digits n t ∙ ap (λ (l : List ℕ). l ++ ((48 + n % 10) ∷ [])) f.2, f.3, λ (p : 0 < n). f.4 (omega arith))
  | no t ↦ (n, [], W.one-digit n (omega arith), omega arith, λ (p : 0 < n). p)
]

reads-numeral : (n : ℕ) → numeral (decimal n) ≡ Some n
unfolding numeral
reads-numeral n = elim (dec_le 1 n) [
  | yes p ↦
      let f = first (suc n) n (omega arith) in
      let d : 0 < f.0 = f.4 p in
      let e : (48 + f.0 ≡ 48 → ⊥) = λ (z : 48 + f.0 ≡ 48). omega arith in
      ap (λ (l : List ℕ). numeral l) f.2
      ∙ rw (ne_eqb (48 + f.0) 48 e) (ap (λ (l : List ℕ). digits_after 0 l) (sym f.2) ∙ reads-digits (suc n) n (omega arith))
  | no p ↦
      let z : n ≡ 0 = omega arith in
      ap (λ (m : ℕ). numeral (decimal m)) z ∙ ap (λ (l : List ℕ). numeral l) (W.one-digit 0 (omega arith)) ∙ ap Some (sym z)
]

reads-text : (down up : ℕ) (z : ℤ) → Within down up z → field_in down up (text_of z) ≡ holds z
unfolding field_in text_of
reads-text down up (pos n) h =
    let f = first (suc n) n (omega arith) in
    let e : (48 + f.0 ≡ 45 → ⊥) = λ (z : 48 + f.0 ≡ 45). omega arith in
    ap (λ (l : List ℕ). field_in down up l) f.2
    ∙ rw (ne_eqb (48 + f.0) 45 e)
    (ap (λ (l : List ℕ). plain up (numeral l)) (sym f.2) ∙ ap (λ (w : Option ℕ). plain up w) (reads-numeral n) ∙ rw (le-ltb up n h) refl)
reads-text down up (negsuc n) h = ap (λ (w : Option ℕ). negative down w) (reads-numeral (suc n))
    ∙ rw (ne_eqb (suc n) 0 (λ (z : suc n ≡ 0). omega arith), le-ltb down (suc n) h) refl

-- ---- what is read is printed

digit-range : (b : ℕ) → is_digit b ≡ true → (48 ≤ b) × (b ≤ 57)
digit-range b e = go (ltb b 48) (ltb 57 b) refl refl e
  where
    go : (p q : Bool) → ltb b 48 ≡ p → ltb 57 b ≡ q → not p && not q ≡ true → (48 ≤ b) × (b ≤ 57)
    go true q x y z = absurd (false≢true z)
    go false true x y z = absurd (false≢true z)
    go false false x y z = (ltb-false b 48 x, ltb-false 57 b y)

one_more : (v b : ℕ) → 0 < v → 48 ≤ b → b ≤ 57 → decimal (v * 10 + (b - 48)) ≡ decimal v ++ (b ∷ [])
one_more v b p l h =
    let q : (v * 10 + (b - 48)) / 10 ≡ v = omega arith in
    let r : 48 + (v * 10 + (b - 48)) % 10 ≡ b = omega arith in
    W.more-digits (v * 10 + (b - 48)) (omega arith) ∙ ap (λ (m : ℕ). decimal m ++ ((48 + (v * 10 + (b - 48)) % 10) ∷ [])) q
    ∙ ap (λ (m : ℕ). decimal v ++ (m ∷ [])) r

prints-digits : (v n : ℕ) (l : List ℕ) → 0 < v → digits_after v l ≡ Some n → decimal n ≡ decimal v ++ l
unfolding digits_after
prints-digits v n [] p e = let s : v ≡ n = cc in ap decimal (sym s) ∙ sym (append-nil (decimal v))
prints-digits v n (b ∷ t) p e = go (is_digit b) refl e
    (λ (q : 0 < v * 10 + (b - 48)) (f : digits_after (v * 10 + (b - 48)) t ≡ Some n). prints-digits (v * 10 + (b - 48)) n t q f)
  where
    go : (q : Bool) → is_digit b ≡ q → cond q (digits_after (v * 10 + (b - 48)) t) None ≡ Some n
        → (0 < v * 10 + (b - 48) → digits_after (v * 10 + (b - 48)) t ≡ Some n → decimal n ≡ decimal (v * 10 + (b - 48)) ++ t) → decimal n ≡ decimal v ++ (b ∷ t)
    go true d f g =
        let r = digit-range b d in
        g (omega arith) f ∙ ap (λ (l : List ℕ). l ++ t) (one_more v b p r.0 r.1) ∙ append_assoc (decimal v) (b ∷ []) t
    go false d f g = absurd (let z : ◌≡◌ {A = ℕ} 0 1 = cc in omega arith)

prints-zero : (n : ℕ) (t : List ℕ) → nothing_after_zero t ≡ Some n → decimal n ≡ 48 ∷ t
prints-zero n [] e = let z : 0 ≡ n = cc in ap decimal (sym z) ∙ W.one-digit 0 (omega arith)
prints-zero n (b ∷ t) e = absurd (let z : ◌≡◌ {A = ℕ} 0 1 = cc in omega arith)

prints-numeral : (l : List ℕ) (n : ℕ) → numeral l ≡ Some n → decimal n ≡ l
unfolding numeral digits_after
prints-numeral [] n e = absurd (let z : ◌≡◌ {A = ℕ} 0 1 = cc in omega arith)
prints-numeral (b ∷ t) n e = go (eqb b 48) (is_digit b) refl refl e
  where
    go : (p q : Bool) → eqb b 48 ≡ p → is_digit b ≡ q → cond p (nothing_after_zero t) (cond q (digits_after (0 * 10 + (b - 48)) t) None) ≡ Some n
        → decimal n ≡ b ∷ t
    go true q x y f = prints-zero n t f ∙ ap (λ (m : ℕ). m ∷ t) (sym (eqb-true b 48 x))
    go false true x y f =
        let r = digit-range b y in
        let w : (b ≡ 48 → ⊥) = eqb-false b 48 x in
        let v : 0 < 0 * 10 + (b - 48) = omega arith in
        let s : 48 + (0 * 10 + (b - 48)) ≡ b = omega arith in
        prints-digits (0 * 10 + (b - 48)) n t v f ∙ ap (λ (l : List ℕ). l ++ t) (W.one-digit (0 * 10 + (b - 48)) (omega arith)) ∙ ap (λ (m : ℕ). m ∷ t) s
    go false false x y f = absurd (let z : ◌≡◌ {A = ℕ} 0 1 = cc in omega arith)

never : (x : FieldError) (z : ℤ) → Err x ≡ holds z → ⊥
never x z e = cc

same_value : (y z : ℤ) → holds y ≡ holds z → z ≡ y
same_value y z e = cc

prints-plain : (up : ℕ) (z : ℤ) (l : List ℕ) (w : Option ℕ) → numeral l ≡ w → plain up w ≡ holds z → text_of z ≡ l
unfolding text_of
prints-plain up z l None e f = absurd (never Malformed z f)
prints-plain up z l (Some m) e f = go (ltb up m) f
  where
    go : (q : Bool) → cond q outside (holds (pos m)) ≡ holds z → text_of z ≡ l
    go true g = absurd (never OutOfRange z g)
    go false g = ap text_of (same_value (pos m) z g) ∙ prints-numeral l m e

prints-negative : (down : ℕ) (z : ℤ) (l : List ℕ) (w : Option ℕ) → numeral l ≡ w → negative down w ≡ holds z → text_of z ≡ 45 ∷ l
unfolding text_of
prints-negative down z l None e f = absurd (never Malformed z f)
prints-negative down z l (Some zero) e f = absurd (never Malformed z f)
prints-negative down z l (Some (suc m)) e f = go (eqb (suc m) 0) (ltb down (suc m)) refl f
  where
    go : (p q : Bool) → eqb (suc m) 0 ≡ p → cond p wrong_form (cond q outside (holds (negsuc m))) ≡ holds z → text_of z ≡ 45 ∷ l
    go true q x g = absurd (never Malformed z g)
    go false true x g = absurd (never OutOfRange z g)
    go false false x g = ap text_of (same_value (negsuc m) z g) ∙ ap (λ (d : List ℕ). 45 ∷ d) (prints-numeral l (suc m) e)

prints-text : (down up : ℕ) (z : ℤ) (l : List ℕ) → field_in down up l ≡ holds z → text_of z ≡ l
unfolding field_in
prints-text down up z [] e = absurd (never Malformed z e)
prints-text down up z (b ∷ t) e = go (eqb b 45) refl e
  where
    go : (q : Bool) → eqb b 45 ≡ q → cond q (negative down (numeral t)) (plain up (numeral (b ∷ t))) ≡ holds z → text_of z ≡ b ∷ t
    go true x f = prints-negative down z t (numeral t) refl f ∙ ap (λ (m : ℕ). m ∷ t) (sym (eqb-true b 45 x))
    go false x f = prints-plain up z (b ∷ t) (numeral (b ∷ t)) refl f

pub inverse : Inverse
inverse down up z l = (reads-text down up z, prints-text down up z l)
