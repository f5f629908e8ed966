-- A small accepted sheet, and the same with one thing changed, for the cases that judge whole sheets.
-- (RULES 9, the whole case)
use Rattle.std.specs.Prelude.{ℕ, zero, suc, List, [], ◌∷◌, ◌++◌, drop, ℤ, pos}
use Rattle.params.specs.declared.Params.{Params}
use Rattle.params.specs.Judge.{Sheet}

-- n copies of a row, one after the other.
unfoldable pub rows : ℕ → List ℤ → List ℤ
rows zero row = []
rows (suc n) row = row ++ rows n row

-- Four taps and two samples a symbol, with these bounds on the period.
unfoldable pub params_with : ℕ → ℕ → ℕ → Params
params_with nominal least most = record {
  taps = 4;
  nco_step = pos 0;
  period_nominal = nominal;
  period_min = least;
  period_max = most;
  ted_shift = 8;
  kp = pos 0;
  kp_shift = 0;
  ki = pos 0;
  ki_shift = 0;
  integrator_max = pos 335544;
  agc_init = 262144;
  agc_target = 16384;
  agc_shift = 4;
  bits = 8;
  q_shift = 6;
  block_log2 = 12;
  delay = 24;
}

-- Each row of h and k passes the newest sample on, and g gives nothing.
unfoldable pub plain_sheet : Params → Sheet
plain_sheet p =
    let first : List ℤ = rows 64 (pos 16384 ∷ pos 0 ∷ pos 0 ∷ pos 0 ∷ []) in
    record { params = p; h = first; g = rows 64 (pos 0 ∷ pos 0 ∷ pos 0 ∷ pos 0 ∷ []); k = first }

unfoldable pub sheet : Sheet
sheet = plain_sheet (params_with 33554432 32883343 34225520)

-- The sheet with another first coefficient in the first row of k.
unfoldable pub first_of_k : ℤ → Sheet
first_of_k c = record { params = sheet.params; h = sheet.h; g = sheet.g; k = c ∷ drop 1 sheet.k }
