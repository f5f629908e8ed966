-- The line's components, kept apart and raised, and the pairs that they stand for: place by place the same numbers, so what holds of each place, as it is read
-- or written, holds of the whole.
use Rattle.std.proofs.Common.{◌≡◌, ℕ, zero, suc, ◌+◌, ◌<◌, List, [], ◌∷◌, length, get_or, set, ℤ, sym, refl, ap, ◌∙◌, arith, length-set, get_or-set_other, get_or-set_same, ext_get_or, Bool, true, false, eqb, eqb-true}
use borrow.Author.Tests.{eqb-false}
use Rattle.arith.proofs.Filled.{next_place}
use Rattle.state.specs.declared.Pair.{Pair}
use Rattle.state.specs.Start.{no_pair}
use Rattle.fixed.specs.Raised.{lowered, In32, paired}

-- The pair at a place.
abbrev pub pair_at : List ℕ → List ℕ → ℕ → Pair
pair_at i q n = record { i = lowered (get_or i n 0); q = lowered (get_or q n 0) }

pub paired-long : (i q : List ℕ) → length i ≡ length q → length (paired i q) ≡ length i
unfolding paired
paired-long [] q e = refl
paired-long (x ∷ i) [] e = absurd (omega arith)
paired-long (x ∷ i) (y ∷ q) e = omega (arith, paired-long i q (omega arith))

pub paired-at : (i q : List ℕ) (n : ℕ) → length i ≡ length q → n < length i → get_or (paired i q) n no_pair ≡ pair_at i q n
unfolding paired
paired-at [] q n e h = absurd (omega arith)
paired-at (x ∷ i) [] n e h = absurd (omega arith)
paired-at (x ∷ i) (y ∷ q) zero e h = refl
paired-at (x ∷ i) (y ∷ q) (suc n) e h = paired-at i q n (omega arith) (omega arith)

pub paired-set : (i q : List ℕ) (n x y : ℕ) {m : Pair} → length i ≡ length q → lowered x ≡ m.i → lowered y ≡ m.q
    → paired (set i n x) (set q n y) ≡ set (paired i q) n m
unfolding paired
paired-set [] q n x y e a b = refl
paired-set (u ∷ i) [] n x y e a b = absurd (omega arith)
paired-set (u ∷ i) (v ∷ q) zero x y e a b = λ t. record { i = a t; q = b t } ∷ paired i q
paired-set (u ∷ i) (v ∷ q) (suc n) x y e a b =
    ap (λ (l : List Pair). record { i = lowered u; q = lowered v } ∷ l) (paired-set i q n x y (omega arith) a b)

-- the pairs of what stands for a line are the line
pub paired-line : (i q : List ℕ) (line : List Pair) → length i ≡ 64 → length q ≡ 64 → length line ≡ 64
    → ((n : ℕ) → n < 64 → get_or line n no_pair ≡ pair_at i q n) → paired i q ≡ line
paired-line i q line a b c each =
    let long = paired-long i q (a ∙ sym b) in
    ext_get_or no_pair (paired i q) line (omega arith) (λ n h. paired-at i q n (a ∙ sym b) (omega arith) ∙ sym (each n (omega arith)))

-- ---- an array that a loop raises place by place

-- The first n numbers are raised ones that stand for these values.
pub record Laying (value : ℕ → ℤ) (n : ℕ) (raised : List ℕ) : Type 0 where
  pub long : length raised ≡ 64
  pub stands : (m : ℕ) → m < n → lowered (get_or raised m 0) ≡ value m
  pub small : In32 n raised

-- a number that stands for the next value joins them
pub laying-next : {value : ℕ → ℤ} {n : ℕ} {raised : List ℕ} → Laying value n raised → (x : ℕ) → lowered x ≡ value n → x < 4294967296 → n < 64
    → Laying value (n + 1) (set raised n x)
laying-next {value} {n} {raised} laid x e small h =
    let at : get_or (set raised n x) n 0 ≡ x = get_or-set_same raised n x 0 (omega (arith, laid.long)) in
    let other : (m : ℕ) → m < n → get_or (set raised n x) m 0 ≡ get_or raised m 0 = λ m l. get_or-set_other raised n m x 0 (omega arith) in
    record {
      long = length-set raised n x ∙ laid.long;
      stands = next_place (λ m. lowered (get_or (set raised n x) m 0) ≡ value m) n (λ m l. rw (other m l) (laid.stands m l)) (rw at e);
      small = next_place (λ m. get_or (set raised n x) m 0 < 4294967296) n (λ m l. rw (other m l) (laid.small m l)) (rw at small);
    }

-- a small number takes a place
pub in32-set : (raised : List ℕ) (n x : ℕ) → x < 4294967296 → n < length raised → In32 64 raised → In32 64 (set raised n x)
in32-set raised n x small h old m b = go (eqb m n) refl
  where
    go : (b : Bool) → eqb m n ≡ b → get_or (set raised n x) m 0 < 4294967296
    go true e = rw (eqb-true m n e, get_or-set_same raised n x 0 h) small
    go false e = let other = eqb-false m n e in rw (get_or-set_other raised n m x 0 (omega arith)) (old m b)
