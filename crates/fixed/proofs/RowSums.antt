-- The sum of a row over the line, built up coefficient by coefficient on top of any number. A sum of products is linear in each factor, so what the raising of
-- the line's numbers, or of the coefficients, adds to it is a sum of its own; and each tap adds no more than a bound, so n taps add no more than n of them.
use Rattle.std.proofs.Common.{◌≡◌, ℕ, zero, suc, ◌+◌, ◌*◌, ◌^◌, ◌<◌, ◌≤◌, T, List, length, get_or, ℤ, pos, ◌+ℤ◌, ◌-ℤ◌, ◌*ℤ◌, nat_abs, sym, refl, ap, ◌∙◌, subst, suc-mul, mul-le-mul, add-one, arith, w32, Fits, SFits}
use lib.IntN.{zero-*ℤ, *ℤ_comm, +ℤ_assoc, +ℤ_idr, +ℤ-neg_ℤ_cancel}
use lib.Signed.{non_neg, pos-nat_abs}
use Rattle.arith.proofs.Magnitude.{abs-add, abs-mul-le}
use Rattle.arith.proofs.Bits.{fit-abs}
use Rattle.arith.proofs.Order.{abs-pn, add-pn, minus-pn, eq-pn, pn-fit, unsign}
use Rattle.arith.proofs.Products.{add-mul, mul-minus}
use Rattle.symbol.specs.declared.Sums.{Sums}
use Rattle.fixed.specs.declared.filter.Raised.{Raised}
use Rattle.fixed.specs.declared.filter.Summed.{Summed}
use Rattle.fixed.specs.Filter.{sum_to}
use Rattle.fixed.specs.TwoRuns.{together}
use Rattle.fixed.specs.Raised.{lowered}
use Rattle.fixed.specs.Inside.{sum_over, sums_over, unraised, unraised_sums, one_tap_more, SumsUpto, RaisedUpto, SummedUpto}

-- ---- sums

sum-suc : (f : ℕ → ℤ) (n : ℕ) → sum_to f (n + 1) ≡ sum_to f n +ℤ f n
unfolding sum_to
sum-suc f n = rw add-one

sum-none : (f : ℕ → ℤ) → sum_to f 0 ≡ pos 0
unfolding sum_to
sum-none f = refl

-- of equal numbers
pub sum_same : (f g : ℕ → ℤ) (n : ℕ) → ((m : ℕ) → m < n → f m ≡ g m) → sum_to f n ≡ sum_to g n
unfolding sum_to
sum_same f g zero h = refl
sum_same f g (suc n) h = ap (λ (z : ℤ). z +ℤ f n) (sum_same f g n (λ m l. h m (omega arith))) ∙ ap (λ (z : ℤ). sum_to g n +ℤ z) (h n (omega arith))

-- of the first a numbers and of the b behind them
pub sum-split : (f : ℕ → ℤ) (a b : ℕ) → sum_to f (a + b) ≡ sum_to f a +ℤ sum_to (λ m. f (a + m)) b
unfolding sum_to
sum-split f a zero = let e : a + 0 ≡ a = omega arith in rw e (sym (+ℤ_idr (sum_to f a)))
sum-split f a (suc b) =
    let e : a + suc b ≡ suc (a + b) = omega arith in
    rw e (ap (λ (z : ℤ). z +ℤ f (a + b)) (sum-split f a b) ∙ +ℤ_assoc (sum_to f a) (sum_to (λ m. f (a + m)) b) (f (a + b)))

-- of differences
swap : (a b c d : ℤ) → (a -ℤ b) +ℤ (c -ℤ d) ≡ (a +ℤ c) -ℤ (b +ℤ d)
swap a b c d =
    eq-pn ((a -ℤ b) +ℤ (c -ℤ d)) ((a +ℤ c) -ℤ (b +ℤ d))
    (omega (arith, add-pn (a -ℤ b) (c -ℤ d), minus-pn a b, minus-pn c d, minus-pn (a +ℤ c) (b +ℤ d), add-pn a c, add-pn b d))

sum-minus : (f g : ℕ → ℤ) (n : ℕ) → sum_to (λ m. f m -ℤ g m) n ≡ sum_to f n -ℤ sum_to g n
unfolding sum_to
sum-minus f g zero = refl
sum-minus f g (suc n) = ap (λ (z : ℤ). z +ℤ (f n -ℤ g n)) (sum-minus f g n) ∙ swap (sum_to f n) (sum_to g n) (f n) (g n)

-- of multiples
sum-mul : (f : ℕ → ℤ) (k : ℤ) (n : ℕ) → sum_to (λ m. f m *ℤ k) n ≡ sum_to f n *ℤ k
unfolding sum_to
sum-mul f k zero = sym (zero-*ℤ k)
sum-mul f k (suc n) = ap (λ (z : ℤ). z +ℤ f n *ℤ k) (sum-mul f k n) ∙ sym (add-mul (sum_to f n) (f n) k)

-- ---- what raising adds

-- of the line's numbers: the coefficients' sum times as much
lower-line : (c x : ℕ → ℤ) (k : ℤ) (n : ℕ) → sum_to (λ m. c m *ℤ (x m -ℤ k)) n ≡ sum_to (λ m. c m *ℤ x m) n -ℤ sum_to c n *ℤ k
lower-line c x k n =
    sum_same (λ m. c m *ℤ (x m -ℤ k)) (λ m. c m *ℤ x m -ℤ c m *ℤ k) n (λ m l. mul-minus (c m) (x m) k)
    ∙ sum-minus (λ m. c m *ℤ x m) (λ m. c m *ℤ k) n
    ∙ ap (λ (z : ℤ). sum_to (λ m. c m *ℤ x m) n -ℤ z) (sum-mul c k n)

-- of the coefficients: the line's sum times as much
one_lower : (c x k : ℤ) → c *ℤ x ≡ (c +ℤ k) *ℤ x -ℤ x *ℤ k
one_lower c x k = sym (+ℤ-neg_ℤ_cancel (c *ℤ x) (x *ℤ k)) ∙ ap (λ (z : ℤ). z -ℤ x *ℤ k) (ap (λ (z : ℤ). c *ℤ x +ℤ z) (*ℤ_comm x k) ∙ sym (add-mul c k x))

lower-row : (c x : ℕ → ℤ) (k : ℤ) (n : ℕ) → sum_to (λ m. c m *ℤ x m) n ≡ sum_to (λ m. (c m +ℤ k) *ℤ x m) n -ℤ sum_to x n *ℤ k
lower-row c x k n =
    sum_same (λ m. c m *ℤ x m) (λ m. (c m +ℤ k) *ℤ x m -ℤ x m *ℤ k) n (λ m l. one_lower (c m) (x m) k)
    ∙ sum-minus (λ m. (c m +ℤ k) *ℤ x m) (λ m. x m *ℤ k) n
    ∙ ap (λ (z : ℤ). sum_to (λ m. (c m +ℤ k) *ℤ x m) n -ℤ z) (sum-mul x k n)

-- ---- numbers that grow by a term a tap

-- z is z₀ and the first n terms of f on top of it. A term is at most B, so where z₀ is at most m of these, z is at most m + n.
pub record Grown (f : ℕ → ℤ) (B n : ℕ) (z₀ z : ℤ) : Type 0 where
  pub is : z ≡ z₀ +ℤ sum_to f n
  pub few : (m : ℕ) → nat_abs z₀ ≤ m * B → nat_abs z ≤ (m + n) * B

grown-none : (f : ℕ → ℤ) (B : ℕ) (z : ℤ) → Grown f B 0 z z
grown-none f B z = record {
  is = sym (ap (λ (y : ℤ). z +ℤ y) (sum-none f) ∙ +ℤ_idr z);
  few = λ m h. let e : m + 0 ≡ m = omega arith in rw e h;
}

grown-more : {f : ℕ → ℤ} {B n : ℕ} {z₀ z : ℤ} (y : ℤ) → y ≡ f n → nat_abs y ≤ B → Grown f B n z₀ z → Grown f B (n + 1) z₀ (z +ℤ y)
grown-more {f} {B} {n} {z₀} {z} y e h g = record {
  is =
      ap (λ (x : ℤ). z +ℤ x) e ∙ ap (λ (x : ℤ). x +ℤ f n) g.is ∙ +ℤ_assoc z₀ (sum_to f n) (f n)
      ∙ ap (λ (x : ℤ). z₀ +ℤ x) (sym (sum-suc f n));
  few = λ m l.
      let s : m + (n + 1) ≡ suc (m + n) = omega arith in
      rw (s, suc-mul (m + n) B) (omega (arith, g.few m l, abs-add z y));
}

-- ---- a row over a component of the line

abbrev pub coefficient : List ℤ → ℕ → ℤ
coefficient row n = get_or row n (pos 0)

-- a coefficient times a number of the line
abbrev pub term : List ℤ → List ℕ → ℕ → ℤ
term row kept n = coefficient row n *ℤ lowered (get_or kept n 0)

pub product_small : (c x : ℤ) → nat_abs c ≤ 131071 → nat_abs x ≤ 2147483648 → nat_abs (c *ℤ x) ≤ 2 ^ 48
product_small c x h k = omega (arith, abs-mul-le c x 131071 2147483648 h k)

-- a raised number of 32 bits, lowered, is one of 32 bits signed
pub lowered-fits : (u : ℕ) → u < 4294967296 → SFits w32 (lowered u)
lowered-fits u h =
    let d = minus-pn (pos u) (pos 2147483648) in
    pn-fit {z = lowered u} (omega arith) (omega arith)

pub lowered-small : (u : ℕ) → u < 4294967296 → nat_abs (lowered u) ≤ 2147483648
lowered-small u h = fit-abs (lowered-fits u h)

term-small : (row : List ℤ) (kept : List ℕ) (n : ℕ) → nat_abs (coefficient row n) ≤ 131071 → get_or kept n 0 < 4294967296
    → nat_abs (term row kept n) ≤ 2 ^ 48
term-small row kept n h x = product_small (coefficient row n) (lowered (get_or kept n 0)) h (lowered-small (get_or kept n 0) x)

-- A run's sums (specs/TwoRuns), over what is kept of the line.
unfoldable pub run_over : List ℤ → List ℕ → List ℕ → ℕ → ℕ → ℕ → Sums
run_over row i q from place count = record {
  i = sum_to (λ n. coefficient row (from + n) *ℤ lowered (get_or i (place + n) 0)) count;
  q = sum_to (λ n. coefficient row (from + n) *ℤ lowered (get_or q (place + n) 0)) count;
}

-- both components
pub record Added (row : List ℤ) (i q : List ℕ) (n : ℕ) (s₀ s : Sums) : Type 0 where
  pub in-i : Grown (term row i) (2 ^ 48) n s₀.i s.i
  pub in-q : Grown (term row q) (2 ^ 48) n s₀.q s.q

pub added_none : (row : List ℤ) (i q : List ℕ) (s : Sums) → Added row i q 0 s s
added_none row i q s = record { in-i = grown-none (term row i) (2 ^ 48) s.i; in-q = grown-none (term row q) (2 ^ 48) s.q }

pub added_more : {row : List ℤ} {i q : List ℕ} {n : ℕ} {s₀ s : Sums} → nat_abs (coefficient row n) ≤ 131071 → get_or i n 0 < 4294967296
    → get_or q n 0 < 4294967296 → Added row i q n s₀ s → Added row i q (n + 1) s₀ (record { i = s.i +ℤ term row i n; q = s.q +ℤ term row q n })
added_more {row} {i} {q} {n} h x y a = record {
  in-i = grown-more (term row i n) refl (term-small row i n h x) a.in-i;
  in-q = grown-more (term row q n) refl (term-small row q n h y) a.in-q;
}

pub added-upto : {row : List ℤ} {i q : List ℕ} {n : ℕ} {s₀ s : Sums} → Added row i q n s₀ s → (m : ℕ) → SumsUpto m s₀ → SumsUpto (m + n) s
added-upto a m b = record { i = a.in-i.few m b.i; q = a.in-q.few m b.q }

-- a wider bound
pub sums-wider : {a b : ℕ} {s : Sums} → a ≤ b → SumsUpto a s → SumsUpto b s
sums-wider h u = record { i = omega (arith, u.i); q = omega (arith, u.q) }

pub added-all : {row : List ℤ} {i q : List ℕ} {n : ℕ} {s₀ s : Sums} → n ≡ length row → Added row i q n s₀ s → s ≡ together s₀ (sums_over row i q)
unfolding sums_over sum_over
added-all {row} {i} {q} {s₀ = s₀} {s} e b =
    let a : Added row i q (length row) s₀ s = subst (λ (n : ℕ). Added row i q n s₀ s) e b in
    λ t. record { i = a.in-i.is t; q = a.in-q.is t }

-- ---- a row of raised coefficients over raised numbers

abbrev pub kept_at : List ℕ → ℕ → ℤ
kept_at kept n = pos (get_or kept n 0)

abbrev pub raised-term : List ℤ → List ℕ → ℕ → ℤ
raised-term row kept n = (coefficient row n +ℤ pos 131072) *ℤ kept_at kept n

-- a coefficient of 18 bits, raised, is a number from 1 to 262143
pub raised-small : (c : ℤ) → nat_abs c ≤ 131071 → nat_abs (c +ℤ pos 131072) ≤ 262143
raised-small c h = omega (arith, abs-add c (pos 131072))

pub raised-whole : (c : ℤ) → nat_abs c ≤ 131071 → T (non_neg (c +ℤ pos 131072)) × Fits w32 (nat_abs (c +ℤ pos 131072))
raised-whole c h = unsign w32 (c +ℤ pos 131072) (omega (arith, add-pn c (pos 131072), abs-pn c)) (omega (arith, add-pn c (pos 131072), abs-pn c))

raised-grown : (row : List ℤ) (kept : List ℕ) {n u₀ u : ℕ} → nat_abs (coefficient row n) ≤ 131071 → get_or kept n 0 < 4294967296
    → Grown (raised-term row kept) (2 ^ 50) n (pos u₀) (pos u)
    → Grown (raised-term row kept) (2 ^ 50) (n + 1) (pos u₀) (pos (u + nat_abs (coefficient row n +ℤ pos 131072) * get_or kept n 0))
raised-grown row kept {n} h x g =
    let c : ℤ = coefficient row n +ℤ pos 131072 in
    let b : get_or kept n 0 ≤ 4294967295 = omega arith in
    grown-more (pos (nat_abs c * get_or kept n 0)) (ap (λ (z : ℤ). z *ℤ kept_at kept n) (pos-nat_abs c (raised-whole (coefficient row n) h).0))
    (omega (arith, mul-le-mul (raised-small (coefficient row n) h) b)) g

-- all that is summed of it
pub record Taken (row : List ℤ) (i q : List ℕ) (n : ℕ) (s₀ s : Raised) : Type 0 where
  pub in-i : Grown (raised-term row i) (2 ^ 50) n (pos s₀.i) (pos s.i)
  pub in-q : Grown (raised-term row q) (2 ^ 50) n (pos s₀.q) (pos s.q)
  pub coefficients : Grown (coefficient row) (2 ^ 17) n s₀.coefficients s.coefficients
  pub line-i : Grown (kept_at i) (2 ^ 32) n (pos s₀.line_i) (pos s.line_i)
  pub line-q : Grown (kept_at q) (2 ^ 32) n (pos s₀.line_q) (pos s.line_q)

pub taken_none : (row : List ℤ) (i q : List ℕ) (s : Raised) → Taken row i q 0 s s
taken_none row i q s = record {
  in-i = grown-none (raised-term row i) (2 ^ 50) (pos s.i);
  in-q = grown-none (raised-term row q) (2 ^ 50) (pos s.q);
  coefficients = grown-none (coefficient row) (2 ^ 17) s.coefficients;
  line-i = grown-none (kept_at i) (2 ^ 32) (pos s.line_i);
  line-q = grown-none (kept_at q) (2 ^ 32) (pos s.line_q);
}

pub taken_more : {row : List ℤ} {i q : List ℕ} {n : ℕ} {s₀ s : Raised} → nat_abs (coefficient row n) ≤ 131071 → get_or i n 0 < 4294967296
    → get_or q n 0 < 4294967296 → Taken row i q n s₀ s → Taken row i q (n + 1) s₀ (one_tap_more s (coefficient row n) (get_or i n 0) (get_or q n 0))
taken_more {row} {i} {q} {n} h x y t = record {
  in-i = raised-grown row i h x t.in-i;
  in-q = raised-grown row q h y t.in-q;
  coefficients = grown-more (coefficient row n) refl (omega arith) t.coefficients;
  line-i = grown-more (kept_at i n) refl (omega arith) t.line-i;
  line-q = grown-more (kept_at q n) refl (omega arith) t.line-q;
}

pub taken-upto : {row : List ℤ} {i q : List ℕ} {n : ℕ} {s₀ s : Raised} → Taken row i q n s₀ s → (m : ℕ) → RaisedUpto m s₀ → RaisedUpto (m + n) s
taken-upto t m b = record {
  i = t.in-i.few m b.i;
  q = t.in-q.few m b.q;
  coefficients = t.coefficients.few m b.coefficients;
  line-i = t.line-i.few m b.line-i;
  line-q = t.line-q.few m b.line-q;
}

pub raised-wider : {a b : ℕ} {s : Raised} → a ≤ b → RaisedUpto a s → RaisedUpto b s
raised-wider h u = record {
  i = omega (arith, u.i);
  q = omega (arith, u.q);
  coefficients = omega (arith, u.coefficients);
  line-i = omega (arith, u.line-i);
  line-q = omega (arith, u.line-q);
}

pub summed-wider : {a b : ℕ} {s : Summed} → a ≤ b → SummedUpto a s → SummedUpto b s
summed-wider h u = record {
  detected = record { h = sums-wider h u.detected.h; g = sums-wider h u.detected.g };
  output = raised-wider h u.output;
}

-- what both raisings add, taken off
lifted-all : (row : List ℤ) (kept : List ℕ) (n : ℕ)
    → sum_to (raised-term row kept) n -ℤ sum_to (kept_at kept) n *ℤ pos 131072 -ℤ sum_to (coefficient row) n *ℤ pos 2147483648 ≡ sum_to (term row kept) n
lifted-all row kept n =
    ap (λ (z : ℤ). z -ℤ sum_to (coefficient row) n *ℤ pos 2147483648) (sym (lower-row (coefficient row) (kept_at kept) (pos 131072) n))
    ∙ sym (lower-line (coefficient row) (kept_at kept) (pos 2147483648) n)

-- two such sums as one
both-unraised : (a b c d e f k l : ℤ) → (a +ℤ b) -ℤ (c +ℤ d) *ℤ k -ℤ (e +ℤ f) *ℤ l ≡ (a -ℤ c *ℤ k -ℤ e *ℤ l) +ℤ (b -ℤ d *ℤ k -ℤ f *ℤ l)
both-unraised a b c d e f k l =
    (λ t. (a +ℤ b) -ℤ add-mul c d k t -ℤ add-mul e f l t) ∙ ap (λ (z : ℤ). z -ℤ (e *ℤ l +ℤ f *ℤ l)) (sym (swap a (c *ℤ k) b (d *ℤ k)))
    ∙ sym (swap (a -ℤ c *ℤ k) (e *ℤ l) (b -ℤ d *ℤ k) (f *ℤ l))

unraised-all : (row : List ℤ) (kept : List ℕ) {u₀ v₀ u v : ℕ} {c₀ c : ℤ} → Grown (raised-term row kept) (2 ^ 50) (length row) (pos u₀) (pos u)
    → Grown (kept_at kept) (2 ^ 32) (length row) (pos v₀) (pos v)
    → Grown (coefficient row) (2 ^ 17) (length row) c₀ c
    → unraised u v c ≡ unraised u₀ v₀ c₀ +ℤ sum_over row kept
unfolding sum_over
unraised-all row kept {u₀} {v₀} {c₀ = c₀} a b w =
    (λ t. a.is t -ℤ b.is t *ℤ pos 131072 -ℤ w.is t *ℤ pos 2147483648)
    ∙ both-unraised (pos u₀) (sum_to (raised-term row kept) (length row)) (pos v₀) (sum_to (kept_at kept) (length row)) c₀
    (sum_to (coefficient row) (length row)) (pos 131072) (pos 2147483648)
    ∙ ap (λ (z : ℤ). unraised u₀ v₀ c₀ +ℤ z) (lifted-all row kept (length row))

pub taken-all : {row : List ℤ} {i q : List ℕ} {n : ℕ} {s₀ s : Raised} → n ≡ length row → Taken row i q n s₀ s
    → unraised_sums s ≡ together (unraised_sums s₀) (sums_over row i q)
unfolding sums_over
taken-all {row} {i} {q} {s₀ = s₀} {s} e b =
    let t : Taken row i q (length row) s₀ s = subst (λ (n : ℕ). Taken row i q n s₀ s) e b in
    let x = unraised-all row i t.in-i t.line-i t.coefficients in
    let y = unraised-all row q t.in-q t.line-q t.coefficients in
    λ m. record { i = x m; q = y m }
