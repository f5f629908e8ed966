-- Rounding and shifting. R needs no sum that could overflow: of v, shifted to one place before the last, it takes the half rounded up, which is that
-- number less its half rounded down. A shift past the last place of 64 bits leaves the sign alone, and R leaves 0.
use Prim.Native.Nat.{ℕ, zero, suc, ◌+◌, ◌-◌, ◌*◌, ◌/◌, ◌^◌, ◌≤◌, ◌<◌}
use mathlib.Core.Path.{◌≡◌, refl, sym, ap, ◌∙◌}
use native.Mathlib.Nat.{le_refl, pow-suc, div-eq_of_lt, div-div-eq-div-mul, add-div_right}
use Rattle.std.proofs.lemmas.Int.{ints}
use native.Mathlib.Omega.{arith}
use lib.IntN.{ℤ, pos, negsuc, neg_ℤ, nat_abs, ◌+ℤ◌, ◌-ℤ◌, +ℤ_idr}
use lib.Signed.{mag, shr_z}
use lib.Pow.{pow_pos, pow_mono}
use mir.Syntax.{Width}
use mir.Val.{SFits}
use borrow.Author.Tests.{ne_eqb}
use Rattle.arith.specs.Arith.{round_shift}
use Rattle.arith.proofs.Magnitude.{by-sub, abs-shr}
use Rattle.arith.proofs.Bits.{shr-fits}
use Rattle.arith.proofs.Order.{eq-pn, neg-pos_part, neg-neg_part}

-- ---- half of a number, rounded up

abbrev pub upper : ℤ → ℤ
upper h = h -ℤ shr_z h 2

upper_pos : (q : ℕ) → upper (pos q) ≡ pos (q - q / 2)
upper_pos q = grind (arith, ints)

upper-neg : (q : ℕ) → upper (negsuc q) ≡ neg_ℤ (pos (q - q / 2))
upper-neg q = grind (arith, ints)

pub upper-abs : (h : ℤ) → nat_abs (upper h) ≤ nat_abs h
upper-abs h = grind (arith, ints)

-- by the measure of a width's range: the upper half of a number below zero is nearer to zero
pub upper_fits : {w : Width} {h : ℤ} → SFits w h → SFits w (upper h)
upper_fits {w} {h} f = grind (arith, ints)

-- ---- R by two shifts

module _ (m : ℕ) (above : 0 < m) where
  half_place : (a : ℕ) → (a + m) / (m * 2) ≡ a / m - a / m / 2
  half_place a =
      let e : (a + m) / (m * 2) ≡ (a / m + 1) / 2 = sym (div-div-eq-div-mul (a + m) m 2) ∙ ap (λ (n : ℕ). n / 2) (add-div_right a above) in
      omega arith

  half-added : (v : ℤ) → shr_z (v +ℤ pos m) (m * 2) ≡ upper (shr_z v m)
  half-added (pos a) = ap pos (half_place a) ∙ sym (upper_pos (a / m))
  half-added (negsuc a) =
      by-sub (λ z. shr_z z (m * 2) ≡ upper (negsuc (a / m))) m (suc a)
      (λ h. rw (upper-neg (a / m)) (below a h))
      (λ h. rw (upper-neg (a / m), div-eq_of_lt {n = a} {m = m} h, div-eq_of_lt {n = m - suc a} {m = m * 2} (omega arith)))
    where
      -- m - (a + 1) is below zero: with a = b + m it is -(b + 1)
      below : (a : ℕ) → m < suc a → negsuc ((suc a - suc m) / (m * 2)) ≡ neg_ℤ (pos (a / m - a / m / 2))
      below a h =
          let b : ℕ = a - m in
          let up : a / m ≡ b / m + 1 = ap (λ (n : ℕ). n / m) (omega arith) ∙ add-div_right b above in
          let down : (suc a - suc m) / (m * 2) ≡ b / m / 2 = ap (λ (n : ℕ). n / (m * 2)) (omega arith) ∙ sym (div-div-eq-div-mul b m 2) in
          let r : ℕ = a / m - a / m / 2 in
          eq-pn (negsuc ((suc a - suc m) / (m * 2))) (neg_ℤ (pos r)) (omega (arith, neg-pos_part (pos r), neg-neg_part (pos r)))

-- the last place but one, then its upper half
pub round-halves : (v : ℤ) (s : ℕ) → 0 < s → round_shift v s ≡ upper (shr_z v (2 ^ (s - 1)))
unfolding round_shift
round-halves v s h =
    let e : 2 ^ s ≡ 2 ^ (s - 1) * 2 = ap (λ (n : ℕ). 2 ^ n) (omega arith) ∙ pow-suc 2 (s - 1) in
    rw (ne_eqb s 0 (omega arith), e) (half-added (2 ^ (s - 1)) (pow_pos (s - 1)) v)

-- R makes nothing larger
pub round-abs : (v : ℤ) (s : ℕ) → nat_abs (round_shift v s) ≤ nat_abs v
unfolding round_shift
round-abs v zero = le_refl (nat_abs v)
round-abs v (suc s) =
    rw (round-halves v (suc s) (omega arith)) (omega (arith, upper-abs (shr_z v (2 ^ (suc s - 1))), abs-shr v (2 ^ (suc s - 1))))

-- and what fits a width still does
pub round-fits : {w : Width} {v : ℤ} (s : ℕ) → SFits w v → SFits w (round_shift v s)
unfolding round_shift
round-fits zero f = f
round-fits {w} {v} (suc s) f = rw (round-halves v (suc s) (omega arith)) (upper_fits (shr-fits (2 ^ (suc s - 1)) f))

-- the same with half of 2^s added, which is 0 for s = 0
pub round-added : (v : ℤ) (s : ℕ) → shr_z (v +ℤ pos (2 ^ s / 2)) (2 ^ s) ≡ round_shift v s
unfolding round_shift
round-added v zero = ap (λ (z : ℤ). shr_z z 1) (+ℤ_idr v) ∙ shr_one v
  where
    shr_one : (z : ℤ) → shr_z z 1 ≡ z
    shr_one (pos n) = ap pos (omega arith)
    shr_one (negsuc n) = ap negsuc (omega arith)
round-added v (suc s) =
    let last : s ≡ suc s - 1 = omega arith in
    let half : 2 ^ suc s / 2 ≡ 2 ^ (suc s - 1) = ap (λ (n : ℕ). n / 2) (pow-suc 2 s) ∙ halved (2 ^ s) ∙ ap (λ (n : ℕ). 2 ^ n) last in
    rw (half, ne_eqb (suc s) 0 (omega arith)) refl
  where
    halved : (n : ℕ) → n * 2 / 2 ≡ n
    halved n = omega arith

-- ---- past the last place of 64 bits

far : {j : ℕ} (a s : ℕ) → a < 2 ^ j → j ≤ s → a / 2 ^ s ≡ 0
far a s h k = div-eq_of_lt (omega (arith, pow_mono k))

pub shr-far : (v : ℤ) (s : ℕ) → mag v < 2 ^ 63 → 63 ≤ s → shr_z v (2 ^ s) ≡ shr_z v (2 ^ 63)
shr-far (pos a) s h k = ap pos (far a s h k ∙ sym (far a 63 h (le_refl 63)))
shr-far (negsuc a) s h k = ap negsuc (far a s h k ∙ sym (far a 63 h (le_refl 63)))

-- what is left before the last place is 0 or -1, of which the upper half is 0
pub round-far : {k : ℕ} (v : ℤ) (s : ℕ) → mag v < 2 ^ k → k < s → round_shift v s ≡ pos 0
round-far {k} v s h far-out = round-halves v s (omega arith) ∙ ends v (s - 1) h (omega arith)
  where
    ends : (v : ℤ) (j : ℕ) → mag v < 2 ^ k → k ≤ j → upper (shr_z v (2 ^ j)) ≡ pos 0
    ends (pos a) j h g = rw (far a j h g)
    ends (negsuc a) j h g = rw (far a j h g)
