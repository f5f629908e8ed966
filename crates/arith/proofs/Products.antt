-- Products of sums. That a product with a sum is the sum of the products holds by counting one of the summands up from 0 and down from 0; the other laws
-- follow from it.
use mathlib.Core.Path.{◌≡◌, sym, ap, ◌∙◌}
use lib.IntN.{ℤ, pos, neg_ℤ, ◌+ℤ◌, ◌-ℤ◌, ◌*ℤ◌, ℤ_ind, +ℤ_one, -ℤ_one, +ℤ_idr, +ℤ_assoc, -ℤ-+ℤ_cancel, +ℤ-neg_ℤ_cancel, zero-*ℤ, suc_ℤ-*ℤ, pred_ℤ-*ℤ, *ℤ_comm}

-- one more, or one less, in a sum that is multiplied
up : (a b k : ℤ) → (a +ℤ b) *ℤ k ≡ a *ℤ k +ℤ b *ℤ k → (a +ℤ (b +ℤ pos 1)) *ℤ k ≡ a *ℤ k +ℤ (b +ℤ pos 1) *ℤ k
up a b k e =
    ap (λ (z : ℤ). z *ℤ k) (sym (+ℤ_assoc a b (pos 1)) ∙ +ℤ_one (a +ℤ b)) ∙ suc_ℤ-*ℤ (a +ℤ b) k ∙ ap (λ (z : ℤ). z +ℤ k) e
    ∙ +ℤ_assoc (a *ℤ k) (b *ℤ k) k ∙ ap (λ (z : ℤ). a *ℤ k +ℤ z) (sym (suc_ℤ-*ℤ b k) ∙ ap (λ (z : ℤ). z *ℤ k) (sym (+ℤ_one b)))

down : (a b k : ℤ) → (a +ℤ b) *ℤ k ≡ a *ℤ k +ℤ b *ℤ k → (a +ℤ (b -ℤ pos 1)) *ℤ k ≡ a *ℤ k +ℤ (b -ℤ pos 1) *ℤ k
down a b k e =
    ap (λ (z : ℤ). z *ℤ k) (sym (+ℤ_assoc a b (neg_ℤ (pos 1))) ∙ -ℤ_one (a +ℤ b)) ∙ pred_ℤ-*ℤ (a +ℤ b) k ∙ ap (λ (z : ℤ). z -ℤ k) e
    ∙ +ℤ_assoc (a *ℤ k) (b *ℤ k) (neg_ℤ k) ∙ ap (λ (z : ℤ). a *ℤ k +ℤ z) (sym (pred_ℤ-*ℤ b k) ∙ ap (λ (z : ℤ). z *ℤ k) (sym (-ℤ_one b)))

pub add-mul : (a b k : ℤ) → (a +ℤ b) *ℤ k ≡ a *ℤ k +ℤ b *ℤ k
add-mul a b k =
    ℤ_ind (λ z. (a +ℤ z) *ℤ k ≡ a *ℤ k +ℤ z *ℤ k)
    (ap (λ (z : ℤ). z *ℤ k) (+ℤ_idr a) ∙ sym (ap (λ (z : ℤ). a *ℤ k +ℤ z) (zero-*ℤ k) ∙ +ℤ_idr (a *ℤ k)))
    (λ n e. up a (pos n) k e)
    (λ n e. down a (neg_ℤ (pos n)) k e)
    b

pub mul-add : (k a b : ℤ) → k *ℤ (a +ℤ b) ≡ k *ℤ a +ℤ k *ℤ b
mul-add k a b = *ℤ_comm k (a +ℤ b) ∙ add-mul a b k ∙ ap (λ (z : ℤ). z +ℤ b *ℤ k) (*ℤ_comm a k) ∙ ap (λ (z : ℤ). k *ℤ a +ℤ z) (*ℤ_comm b k)

-- a difference is the number that gives the first with the second added
only : (x a b : ℤ) → x +ℤ b ≡ a → x ≡ a -ℤ b
only x a b e = sym (+ℤ-neg_ℤ_cancel x b) ∙ ap (λ (z : ℤ). z -ℤ b) e

pub mul-minus : (k a b : ℤ) → k *ℤ (a -ℤ b) ≡ k *ℤ a -ℤ k *ℤ b
mul-minus k a b = only (k *ℤ (a -ℤ b)) (k *ℤ a) (k *ℤ b) (sym (mul-add k (a -ℤ b) b) ∙ ap (λ (z : ℤ). k *ℤ z) (-ℤ-+ℤ_cancel a b))
