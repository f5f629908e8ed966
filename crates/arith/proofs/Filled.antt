-- Arrays that a loop fills place by place, one a turn: what they hold after n turns. A turn writes place n alone, so what held of the places before it goes on
-- holding, and of place n it is seen at once.
use Prim.Native.Nat.{ℕ, ◌+◌, ◌≤◌, ◌<◌}
use mathlib.Core.Path.{◌≡◌, refl, sym, subst, ◌∙◌}
use mathlib.Core.Bool.{Bool, true, false}
use mathlib.Core.List.{List}
use native.Mathlib.Omega.{arith}
use lib.Dec.{eqb}
use lib.ListN.{length, get_or, set, length-set}
use lib.Seq.{get_or-set_same, get_or-set_other}
use borrow.Author.Tests.{eqb-true, eqb-false}

-- what holds of the first n places and of the next one holds of all of these
pub next_place : (Q : ℕ → Type 0) (n : ℕ) → ((m : ℕ) → m < n → Q m) → Q n → (m : ℕ) → m < n + 1 → Q m
next_place Q n before at m h = go (eqb m n) refl
  where
    go : (b : Bool) → eqb m n ≡ b → Q m
    go true e = subst Q (sym (eqb-true m n e)) at
    go false e = let other = eqb-false m n e in before m (omega arith)

-- The first n places hold what they are to hold, f, and the others what they held.
pub record Filled {A : Type 0} (d : A) (f : ℕ → A) (n : ℕ) (l₀ l : List A) : Type 0 where
  pub long : length l ≡ length l₀
  pub first : (m : ℕ) → m < n → get_or l m d ≡ f m
  pub rest : (m : ℕ) → n ≤ m → get_or l m d ≡ get_or l₀ m d

pub filled_next : {A : Type 0} {d : A} {f : ℕ → A} {n : ℕ} {l₀ l : List A} → Filled d f n l₀ l → n < length l → Filled d f (n + 1) l₀ (set l n (f n))
filled_next {A} {d} {f} {n} {l₀} {l} filled h =
    record {
      long = length-set l n (f n) ∙ filled.long;
      first = next_place (λ m. get_or (set l n (f n)) m d ≡ f m) n (λ m k. get_or-set_other l n m (f n) d (omega arith) ∙ filled.first m k)
          (get_or-set_same l n (f n) d h);
      rest = λ m k. get_or-set_other l n m (f n) d (omega arith) ∙ filled.rest m (omega arith);
    }
