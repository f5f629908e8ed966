-- A row put into places from one on, a number at a time: with what is left of it the places become what they become with all of the row.
-- Past the last place nothing changes.
use Prim.Native.Nat.{ℕ, suc, ◌+◌, ◌≤◌, min}
use mathlib.Core.Path.{◌≡◌, refl, sym, ap, ◌∙◌}
use mathlib.Core.List.{List, [], ◌∷◌, map}
use native.Mathlib.Decide.{dec_le}
use native.Mathlib.Omega.{arith}
use lib.ListN.{length, drop, drop_of_length-le}
use lib.Seq.{sets, set_out}

module _ {A : Type 0} where
  -- past the last place nothing is set
  pub sets-out : (l : List A) (i : ℕ) (vs : List A) → length l ≤ i → sets l i vs ≡ l
  sets-out l i [] h = refl
  sets-out l i (a ∷ vs) h =
      let e = set_out l i a h in
      ap (λ (m : List A). sets m (suc i) vs) e ∙ sets-out l (suc i) vs (omega arith)

  pub sets-least : (l : List A) (i : ℕ) (vs : List A) → sets l i vs ≡ sets l (min i (length l)) vs
  sets-least l i vs = elim (dec_le i (length l)) [
    | yes h ↦ let e : i ≡ min i (length l) = omega arith in ap (λ (k : ℕ). sets l k vs) e
    | no h ↦ sets-out l i vs (omega arith) ∙ sym (sets-out l (min i (length l)) vs (omega arith))
  ]

module _ {A B : Type 0} (f : A → B) (row : List A) (i : ℕ) where
  -- the last: none is left, or no place
  pub sets_last : (bank : List B) (at n : ℕ) → min (length row) n ≤ i → length bank ≤ at + n → sets bank (at + i) (map f (drop i row)) ≡ bank
  sets_last bank at n h p = elim (dec_le (length row) i) [
    | yes l ↦ ap (λ (r : List A). sets bank (at + i) (map f r)) (drop_of_length-le row l)
    | no l ↦ sets-out bank (at + i) (map f (drop i row)) (omega arith)
  ]
