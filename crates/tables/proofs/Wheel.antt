-- The wheel keeps the cosine's rule: one test, computed at each of the 1,024 steps, decides what the rule says there.
-- The rule at any other index is the rule at that index modulo 1,024.
use Prim.Native.Nat.{ℕ, zero, suc, ◌+◌, ◌-◌, ◌%◌, ◌≤◌}
use mathlib.Core.Path.{◌≡◌, refl, ap, ◌∙◌}
use mathlib.Core.Bool.{Bool, true, ◌&&◌, ◌||◌}
use mathlib.Core.Logic.{◌⊎◌, ⊎_elim}
use native.Mathlib.Omega.{arith}
use lib.Dec.{leb}
use Rattle.std.proofs.lemmas.Int.{ints}
use borrow.Author.Tests.{leb-true, le-leb}
use lib.IntN.{ℤ, pos, neg_ℤ, nat_abs, ◌+ℤ◌, ◌-ℤ◌, ◌*ℤ◌}
use lib.Signed.{le_z, ◌≤ℤ◌}
use Rattle.std.specs.Bool.{Decides}
use Rattle.std.specs.Ordering.{int_eq}
use Rattle.std.proofs.lemmas.Bool.Decides.{Decides-and, Decides-or, Decides-int_eq, Decides-below_and}
use Rattle.tables.specs.Wheel.{quarter, wheel, CosineRule}

-- indices that differ by whole turns
same_step : (a b : ℕ) → a % 1024 ≡ b % 1024 → wheel a ≡ wheel b
unfolding wheel
same_step a b e = rw e

pub wheel-mod : (k : ℕ) → wheel (k % 1024) ≡ wheel k
wheel-mod k = same_step (k % 1024) k (omega arith)

-- ---- the test at one step, and what it decides there

abbrev off : ℕ → ℕ
off k = nat_abs (wheel k *ℤ wheel k +ℤ wheel (k + 768) *ℤ wheel (k + 768) -ℤ pos 1073676289)

abbrev test : ℕ → Bool
test k =
    int_eq (wheel (k + 512)) (neg_ℤ (wheel k)) && (int_eq (wheel (1024 - k)) (wheel k)
    && ((leb 512 k || le_z (wheel (k + 1)) (wheel k)) && leb (off k) 46341))

abbrev At : ℕ → Type 0
At k =
    (wheel (k + 512) ≡ neg_ℤ (wheel k)) × ((wheel (1024 - k) ≡ wheel k)
    × (((512 ≤ k) ⊎ (wheel (k + 1) ≤ℤ wheel k)) × (off k ≤ 46341)))

decides-leb : (a b : ℕ) → Decides (leb a b) (a ≤ b)
decides-leb a b = (leb-true a b, le-leb a b)

decides-le_z : (a b : ℤ) → Decides (le_z a b) (a ≤ℤ b)
decides-le_z a b = (λ e. record { le = rw e tt }, λ h. grind (arith, ints))

decided : (k : ℕ) → Decides (test k) (At k)
decided k =
    Decides-and _ _ (Decides-int_eq _ _)
    (Decides-and _ _ (Decides-int_eq _ _)
    (Decides-and _ _ (Decides-or _ _ (decides-leb 512 k) (decides-le_z _ _)) (decides-leb (off k) 46341)))

-- the test, computed at every step
abbrev tests : ℕ → Bool
tests zero = true
tests (suc n) = test n && tests n

passed : tests 1024 ≡ true
unfolding wheel quarter
passed = refl

at : (k : ℕ) → At (k % 1024)
at k = (Decides-below_and test At tests decided refl (λ _. refl) 1024).0 passed (k % 1024) (omega arith)

-- ---- the rule, at every index

pub cosine_rule : CosineRule wheel
unfolding wheel quarter
cosine_rule = record {
  around = wheel-mod;
  at_zero = refl;
  at-quarter = refl;
  half-turn = λ k. same_step (k + 512) (k % 1024 + 512) (omega arith) ∙ (at k).0 ∙ ap neg_ℤ (wheel-mod k);
  mirrored = λ k j e. same_step j (1024 - k % 1024) (omega arith) ∙ (at k).1.0 ∙ wheel-mod k;
  falling = λ k h. let e : k % 1024 ≡ k = omega arith in ⊎_elim (λ l. absurd (omega arith)) (λ l. l) (rw e at (at k)).1.1.0;
  circle = λ k. rw (wheel-mod k, same_step (k % 1024 + 768) (k + 768) (omega arith)) at (at k).1.1.1;
}
