-- The rows of the banks: how large their coefficients are, and where those of the timing detector stand.
-- (RULES 1.2, 1.3, 1.4. A number before a definition is that of the refusal it decides.)
use Rattle.std.specs.Prelude.{ℕ, zero, suc, ◌+◌, ◌-◌, ◌*◌, ◌/◌, min, Bool, true, ◌&&◌, ◌||◌, List, [], ◌∷◌, ◌++◌, take, drop, ℤ, pos, negsuc, ◌==◌, nat_le, nat_lt, unsigned_abs}
use mathlib.Core.List.{flatten}
use Rattle.arith.specs.Arith.{within}
use Rattle.params.specs.Refusal.{Refusal, refusal, unless}

-- ---- the rows of a bank

-- Row r of a bank: its part from r × taps on, taps long.
unfoldable pub row_of : ℕ → List ℤ → ℕ → List ℤ
row_of taps bank r = take taps (drop (r * taps) bank)

-- 3: each coefficient of a row fits 18 bits signed.
unfoldable pub coefficient_faults : ℕ → ℕ → List ℤ → List Refusal
coefficient_faults bank r [] = []
coefficient_faults bank r (c ∷ row) =
    unless (within (negsuc 131071) (pos 131071) c) (refusal 3 (pos bank ∷ pos r ∷ c ∷ [])) ++ coefficient_faults bank r row

-- The sum of a row's magnitudes.
unfoldable pub magnitudes : List ℤ → ℕ
magnitudes [] = 0
magnitudes (c ∷ row) = unsigned_abs c + magnitudes row

-- 3, then 4, of one row: its coefficients, then the sum of their magnitudes.
unfoldable pub row_faults : ℕ → ℕ → List ℤ → List Refusal
row_faults bank r row =
    coefficient_faults bank r row ++ unless (nat_le (magnitudes row) 131071) (refusal 4 (pos bank ∷ pos r ∷ pos (magnitudes row) ∷ []))

-- The same of n rows from row r on.
unfoldable pub rows_faults : ℕ → ℕ → List ℤ → ℕ → ℕ → List Refusal
rows_faults taps bank cs r zero = []
rows_faults taps bank cs r (suc n) = row_faults bank r (row_of taps cs r) ++ rows_faults taps bank cs (suc r) n

-- ---- the timing detector's places

-- Whether tap t is one of the detector's: the eight in the middle of a row, or all of a row that has fewer.
-- (RULES 1.3)
unfoldable pub detector_place : ℕ → ℕ → Bool
detector_place taps t =
    let low : ℕ = (taps - 8) / 2 in
    nat_le low t && nat_lt t (low + min 8 taps)

-- A part of a row, from tap t on, is zero outside the detector's places.
unfoldable pub zero_outside : ℕ → ℕ → List ℤ → Bool
zero_outside taps t [] = true
zero_outside taps t (c ∷ row) = (detector_place taps t || unsigned_abs c == 0) && zero_outside taps (suc t) row

-- 5: so are n rows of a bank, from row r on.
unfoldable pub rows_outside : ℕ → List ℤ → ℕ → ℕ → Bool
rows_outside taps cs r zero = true
rows_outside taps cs r (suc n) = zero_outside taps 0 (row_of taps cs r) && rows_outside taps cs (suc r) n

-- 3 and 4 of the three banks, then 5 of h and of g.
unfoldable pub bank_faults : ℕ → List ℤ → List ℤ → List ℤ → List Refusal
bank_faults taps h g k =
    flatten
    (rows_faults taps 0 h 0 64
    ∷ rows_faults taps 1 g 0 64
    ∷ rows_faults taps 2 k 0 64
    ∷ unless (rows_outside taps h 0 64) (refusal 5 (pos 0 ∷ []))
    ∷ unless (rows_outside taps g 0 64) (refusal 5 (pos 1 ∷ []))
    ∷ [])
