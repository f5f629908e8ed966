-- How a number is read: from the left, digit by digit, and cut at 2^63 + 1, which no type's ends reach.
use Rattle.std.proofs.Common.{◌≡◌, refl, sym, ap, ◌∙◌, ℕ, zero, suc, ◌+◌, ◌-◌, ◌*◌, ◌^◌, ◌≤◌, ◌<◌, min, Bool, true, false, cond, ltb, eqb, List, [], ◌∷◌, length, drop, get_or, drop-cons, add-one, drop_of_length-le, ℤ, pos, neg_ℤ, Option, Some, None, Result, arith}
use native.Mathlib.Decide.{dec_le}
use borrow.Author.Tests.{lt-ltb, le-ltb, ne_eqb, eqb-true}
use Rattle.std.specs.Char.{IsNotAsciiDigit}
use Rattle.std.proofs.lemmas.Bool.Decides.{nat_tests}
use Rattle.kinds.specs.declared.FieldError.{FieldError}
use Rattle.text.specs.Fields.{is_digit, digits_after, numeral, kept, plain, negative, outside, holds}

-- ---- the first byte

pub one_byte : (s : List ℕ) → length s ≡ 1 → numeral s ≡ digits_after 0 s
unfolding numeral digits_after
one_byte [] h = absurd (omega arith)
one_byte (b ∷ []) h = go (eqb b 48) refl
  where
    go : (q : Bool) → eqb b 48 ≡ q → cond q (Some 0) (digits_after 0 (b ∷ [])) ≡ digits_after 0 (b ∷ [])
    go true e = rw (eqb-true b 48 e) refl
    go false e = refl
one_byte (b ∷ c ∷ t) h = absurd (omega arith)

pub first_digit : (s : List ℕ) → 0 < length s → (get_or s 0 0 ≡ 48 → ⊥) → numeral s ≡ digits_after 0 s
unfolding numeral
first_digit [] h e = absurd (omega arith)
first_digit (b ∷ t) h e = rw (ne_eqb b 48 e)

-- ---- one byte more, of a number that is cut

-- A number that is cut says as much of the digits that follow as the whole one.
pub cut_before : (v : ℕ) (l : List ℕ) → kept (digits_after (min v (2 ^ 63 + 1)) l) ≡ kept (digits_after v l)
unfolding digits_after
cut_before v [] = ap Some (omega arith)
cut_before v (b ∷ t) =
    let x : ℕ = min v (2 ^ 63 + 1) * 10 + (b - 48) in
    let y : ℕ = v * 10 + (b - 48) in
    let same : min x (2 ^ 63 + 1) ≡ min y (2 ^ 63 + 1) = omega arith in
    go x y (is_digit b) (sym (cut_before x t) ∙ ap (λ (w : ℕ). kept (digits_after w t)) same ∙ cut_before y t)
  where
    go : (x y : ℕ) (q : Bool) → kept (digits_after x t) ≡ kept (digits_after y t) → kept (cond q (digits_after x t) None) ≡ kept (cond q (digits_after y t) None)
    go x y true e = e
    go x y false e = refl

pub no_more : (s : List ℕ) (i v : ℕ) → length s ≤ i → v ≤ 2 ^ 63 + 1 → Some v ≡ kept (digits_after v (drop i s))
unfolding digits_after
no_more s i v h k =
    let e : v ≡ min v (2 ^ 63 + 1) = omega arith in
    rw (drop_of_length-le s h) (ap Some e)

out_of_range : (b : ℕ) → IsNotAsciiDigit b → is_digit b ≡ false
out_of_range b e = grind (arith, nat_tests)

module _ (s : List ℕ) (i v : ℕ) (h : i < length s) where
  pub digit_more : 48 ≤ get_or s i 0 → get_or s i 0 ≤ 57 → (w : ℕ) → w ≡ min (v * 10 + (get_or s i 0 - 48)) (2 ^ 63 + 1)
      → kept (digits_after v (drop i s)) ≡ kept (digits_after w (drop (i + 1) s))
  unfolding digits_after
  digit_more k l w e =
      rw (add-one, drop-cons s i 0 h, le-ltb (get_or s i 0) 48 k, le-ltb 57 (get_or s i 0) l, e) (sym (cut_before (v * 10 + (get_or s i 0 - 48)) (drop (suc i) s)))

  pub no_digit : IsNotAsciiDigit (get_or s i 0) → digits_after v (drop i s) ≡ None
  unfolding digits_after
  no_digit e = rw (drop-cons s i 0 h, out_of_range (get_or s i 0) e) refl

-- ---- a number that is cut says as much of a field as the whole one

same_test : (n end : ℕ) → end ≤ 2 ^ 63 → (f : ℕ → Result ℤ FieldError) → cond (ltb end (min n (2 ^ 63 + 1))) outside (f (min n (2 ^ 63 + 1))) ≡ cond (ltb end n) outside (f n)
same_test n end h f = elim (dec_le n end) [
  | yes l ↦ let e : min n (2 ^ 63 + 1) ≡ n = omega arith in rw e refl
  | no g ↦ let m : end < min n (2 ^ 63 + 1) = omega arith in let m2 : end < n = omega arith in rw (lt-ltb end (min n (2 ^ 63 + 1)) m, lt-ltb end n m2) refl
]

pub plain_cut : (up : ℕ) (w r : Option ℕ) → r ≡ kept w → up < 2 ^ 63 → plain up w ≡ plain up r
plain_cut up None r e h = rw e refl
plain_cut up (Some n) r e h = sym (rw e (same_test n up (omega arith) (λ (k : ℕ). holds (pos k))))

pub negative_cut : (down : ℕ) (w r : Option ℕ) → r ≡ kept w → down ≤ 2 ^ 63 → negative down w ≡ negative down r
negative_cut down None r e h = rw e refl
negative_cut down (Some zero) r e h = rw e refl
negative_cut down (Some (suc n)) r e h =
    let some : (min (suc n) (2 ^ 63 + 1) ≡ 0 → ⊥) = λ (z : min (suc n) (2 ^ 63 + 1) ≡ 0). omega arith in
    let some2 : (suc n ≡ 0 → ⊥) = λ (z : suc n ≡ 0). omega arith in
    rw (ne_eqb (suc n) 0 some2) (sym (rw (e, ne_eqb (min (suc n) (2 ^ 63 + 1)) 0 some) (same_test (suc n) down h (λ (k : ℕ). holds (neg_ℤ (pos k))))))
