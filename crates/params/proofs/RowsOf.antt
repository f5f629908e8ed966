-- Banks, row after row: what holds of the rows passed goes on with the next one, and the first row with a fault has the bank's first.
use Rattle.std.proofs.Common.{◌≡◌, ℕ, zero, suc, ◌+◌, ◌-◌, ◌*◌, ◌<◌, ◌≤◌, true, ◌&&◌, leb, List, [], ◌++◌, length, take, drop, ℤ, ap, sym, ◌∙◌, append_assoc, length-append, mul-le-mul_right, suc-mul, arith, length-drop, length-take-le, leb-true}
use lib.Seq.{take-append_seam, drop-append_seam}
use Rattle.std.proofs.lemmas.List.{drop-drop}
use Rattle.params.specs.Refusal.{first_of}
use Rattle.params.specs.Banks.{row_of, coefficient_faults, magnitudes, row_faults, rows_faults, zero_outside, rows_outside}
use Rattle.params.proofs.Faults.{kept, none_left, none_right, first-append, error-numbered, row-none}
use Rattle.arith.proofs.Both.{and_left, and_right}

-- ---- the rows of a bank

module _ (taps : ℕ) (cs : List ℤ) where
  -- row r lies within the bank, and is taps long
  pub row_inside : (r : ℕ) → r < 64 → r * taps + taps ≤ 64 * taps
  row_inside r h = rw (← suc-mul r taps) (mul-le-mul_right taps h)

  pub row-long : (r : ℕ) → r < 64 → length cs ≡ 64 * taps → length (row_of taps cs r) ≡ taps
  unfolding row_of
  row-long r h e = length-take-le taps (drop (r * taps) cs) (rw (length-drop (r * taps) cs) (omega (arith, row_inside r h)))

  -- the part of the bank from r × taps on, taps long
  pub row-part : (at r : ℕ) → at ≡ r * taps → take (at + taps - at) (drop at cs) ≡ row_of taps cs r
  unfolding row_of
  row-part at r e = let l : at + taps - at ≡ taps = omega arith in rw (l, e)

  -- ---- the bank cut into its rows: behind n of them come row n and the rest

  pub cut-row : (n : ℕ) (row rest : List ℤ) → drop (n * taps) cs ≡ row ++ rest → length row ≡ taps → row ≡ row_of taps cs n
  unfolding row_of
  cut-row n row rest e l = rw e (rw (← l) (sym (take-append_seam row rest)))

  pub cut-rest : (n : ℕ) (row rest : List ℤ) → drop (n * taps) cs ≡ row ++ rest → length row ≡ taps → rest ≡ drop ((n + 1) * taps) cs
  cut-rest n row rest e l =
      let on : (n + 1) * taps ≡ n * taps + taps = grind (arith, suc-mul n taps) in
      rw (on, ← drop-drop taps (n * taps) cs, e, ← l) (sym (drop-append_seam row rest))

  -- while a row is left, fewer than 64 were cut off
  pub cut-some : (n : ℕ) (row rest : List ℤ) → length cs ≡ 64 * taps → 0 < taps → drop (n * taps) cs ≡ row ++ rest → length row ≡ taps → n + 1 ≤ 64
  cut-some n row rest long some e l =
      let past : 64 ≤ n → 64 * taps ≤ n * taps = λ h. mul-le-mul_right taps h in
      grind (arith, length-drop (n * taps) cs, length-append row rest, ap length e, past)

  -- where none is left, all were
  pub cut-all : (n : ℕ) → length cs ≡ 64 * taps → n ≤ 64 → length (drop (n * taps) cs) < taps → n ≡ 64
  cut-all n long le few = grind (arith, length-drop (n * taps) cs, row_inside n)

  rows_split : (bank r n m : ℕ) → rows_faults taps bank cs r (n + m) ≡ rows_faults taps bank cs r n ++ rows_faults taps bank cs (r + n) m
  unfolding rows_faults
  rows_split bank r zero m = grind arith
  rows_split bank r (suc n) m =
      let a : suc n + m ≡ suc (n + m) = omega arith in
      let b : r + suc n ≡ suc r + n = omega arith in
      rw (a, b, rows_split bank (suc r) n m, append_assoc)

  -- one row more without a fault
  pub rows-suc : (bank n : ℕ) → rows_faults taps bank cs 0 n ≡ [] → row_faults bank n (row_of taps cs n) ≡ [] → rows_faults taps bank cs 0 (n + 1) ≡ []
  unfolding rows_faults
  rows-suc bank n none e = rw (rows_split bank 0 n 1, none, zero-add n, e)
    where
      zero-add : (n : ℕ) → 0 + n ≡ n
      zero-add n = omega arith

  -- the first row with one
  pub rows-first : (bank n : ℕ) → n < 64 → rows_faults taps bank cs 0 n ≡ [] → 0 < (first_of (row_faults bank n (row_of taps cs n))).number
      → first_of (rows_faults taps bank cs 0 64) ≡ first_of (row_faults bank n (row_of taps cs n))
  unfolding rows_faults
  rows-first bank n h none f =
      let e : 64 ≡ n + suc (63 - n) = omega arith in
      let z : 0 + n ≡ n = omega arith in
      ap (λ (k : ℕ). first_of (rows_faults taps bank cs 0 k)) e
      ∙ rw (rows_split bank 0 n (suc (63 - n)), none, z) (first-append (row_faults bank n (row_of taps cs n)) _ f)

  -- the rows that are zero outside the detector's places
  outside-split : (r n : ℕ) → rows_outside taps cs r (n + 1) ≡ (rows_outside taps cs r n && zero_outside taps 0 (row_of taps cs (r + n)))
  unfolding rows_outside
  outside-split r zero = grind arith
  outside-split r (suc n) = grind (arith, outside-split (suc r) n)

  pub outside-suc : (n : ℕ) → rows_outside taps cs 0 (n + 1) ≡ (rows_outside taps cs 0 n && zero_outside taps 0 (row_of taps cs n))
  outside-suc n = let z : 0 + n ≡ n = omega arith in outside-split 0 n ∙ rw z

  -- ---- what holds of each row of a bank that was accepted

  none-of-row : (bank r m n : ℕ) → n < m → rows_faults taps bank cs r m ≡ [] → row_faults bank (r + n) (row_of taps cs (r + n)) ≡ []
  unfolding rows_faults
  none-of-row bank r zero n h e = absurd (omega arith)
  none-of-row bank r (suc m) zero h e = let z : r + zero ≡ r = omega arith in rw z (none_left _ _ e)
  none-of-row bank r (suc m) (suc n) h e =
      let z : r + suc n ≡ suc r + n = omega arith in
      rw z (none-of-row bank (suc r) m n (omega arith) (none_right (row_faults bank r (row_of taps cs r)) _ e))

  pub row-light : (bank n : ℕ) → n < 64 → rows_faults taps bank cs 0 64 ≡ [] → magnitudes (row_of taps cs n) ≤ 131071
  unfolding row_faults
  row-light bank n h e =
      let z : 0 + n ≡ n = omega arith in
      let row = row_of taps cs n in
      let none : row_faults bank n row ≡ [] = rw z at (none-of-row bank 0 64 n h e) in
      leb-true (magnitudes row) 131071 (kept (leb (magnitudes row) 131071) _ (none_right (coefficient_faults bank n row) _ none))

  row_zero : (r m n : ℕ) → n < m → rows_outside taps cs r m ≡ true → zero_outside taps 0 (row_of taps cs (r + n)) ≡ true
  unfolding rows_outside
  row_zero r zero n h e = absurd (omega arith)
  row_zero r (suc m) zero h e = let z : r + zero ≡ r = omega arith in rw z (and_left _ _ e)
  row_zero r (suc m) (suc n) h e = let z : r + suc n ≡ suc r + n =
      omega arith in rw z (row_zero (suc r) m n (omega arith) (and_right (zero_outside taps 0 (row_of taps cs r)) _ e))

  pub row-centred : (n : ℕ) → n < 64 → rows_outside taps cs 0 64 ≡ true → zero_outside taps 0 (row_of taps cs n) ≡ true
  row-centred n h e = let z : 0 + n ≡ n = omega arith in rw z at (row_zero 0 64 n h e)

-- one row after the other
pub ruleset rows = (rows-suc, rows-first, outside-suc, row-none, error-numbered, cut-row, cut-rest, cut-some, cut-all)
