-- How answers over places come about: refused, they leave the places alone, and where the number is 0 they are written.
use Prim.Native.Nat.{ℕ}
use mathlib.Core.Path.{◌≡◌, sym, ◌∙◌}
use mathlib.Core.List.{List}
use lib.IntN.{ℤ}
use borrow.Author.Tests.{eq-eqb, ne_eqb}
use Rattle.kinds.specs.Answer.{Answer, answered, first_number}

pub refuses : (number : ℕ) (written places : List ℤ) {n : ℕ} → (n ≡ 0 → ⊥) → n ≡ number
    → ◌≡◌ {A = Answer} (record { number = n; places = places }) (answered number written places)
refuses number written places h e = rw (ne_eqb number 0 (λ z. h (e ∙ z))) (λ i. record { number = e i; places = places })

pub writes : (number : ℕ) (written places : List ℤ) {l : List ℤ} → 0 ≡ number → l ≡ written
    → ◌≡◌ {A = Answer} (record { number = 0; places = l }) (answered number written places)
writes number written places z e = rw (eq-eqb number 0 (sym z)) (λ i. record { number = z i; places = e i })

-- the first of two numbers
pub first-is : (a b : ℕ) {n : ℕ} → (n ≡ 0 → ⊥) → n ≡ a → n ≡ first_number a b
first-is a b h e = rw (ne_eqb a 0 (λ z. h (e ∙ z))) e

pub then_is : (a b : ℕ) {n : ℕ} → a ≡ 0 → n ≡ b → n ≡ first_number a b
then_is a b z e = rw (eq-eqb a 0 z) e
