-- Judging a sheet with its banks: all of its faults, in the order in which they are looked for. The first is the answer.
-- (RULES 1.4. A number before a definition is that of the refusal it decides.)
use Rattle.std.specs.Prelude.{ℕ, ◌*◌, ◌%◌, Bool, ◌&&◌, List, [], ◌∷◌, ◌++◌, length, ℤ, pos, ◌==◌, nat_le, nat_lt}
use mathlib.Core.List.{flatten}
use Rattle.arith.specs.Arith.{within}
use Rattle.params.specs.declared.Params.{Params}
use Rattle.params.specs.Refusal.{Refusal, refusal, unless, first_of}
use Rattle.params.specs.Banks.{bank_faults}

-- A sheet with its banks h, g and k.
pub record Sheet : Type 0 where
  pub params : Params
  pub h : List ℤ
  pub g : List ℤ
  pub k : List ℤ

abbrev pub sheet_of : Params → List ℤ → List ℤ → List ℤ → Sheet
sheet_of p h g k = record { params = p; h = h; g = g; k = k }

-- ---- taps and lengths

-- 1: taps are even, and from 4 to 64.
unfoldable pub good_taps : ℕ → Bool
good_taps taps = nat_le 4 taps && nat_le taps 64 && taps % 2 == 0

-- 2: a bank is 64 rows of taps long.
unfoldable pub good_length : ℕ → List ℤ → Bool
good_length taps bank = length bank == 64 * taps

-- 1 and 2, the banks in the order h, g, k.
unfoldable pub length_faults : ℕ → List ℤ → List ℤ → List ℤ → List Refusal
length_faults taps h g k =
    flatten
    (unless (good_taps taps) (refusal 1 [])
    ∷ unless (good_length taps h) (refusal 2 [])
    ∷ unless (good_length taps g) (refusal 2 [])
    ∷ unless (good_length taps k) (refusal 2 [])
    ∷ [])

-- ---- the fields

-- 6: the periods are in order, above one sample and below four.
unfoldable pub good_periods : Params → Bool
good_periods p =
    nat_lt 16777216 p.period_min && nat_le p.period_min p.period_nominal
    && nat_le p.period_nominal p.period_max && nat_lt p.period_max 67108864

-- 7, of one field: its place among those that are looked at, its value and its bounds.
abbrev pub field_fault : ℕ → ℤ → ℕ → ℕ → List Refusal
field_fault place v lo hi = unless (within (pos lo) (pos hi) v) (refusal 7 (pos place ∷ []))

-- 29: errors act at a symbol from the next one to the 24th later.
unfoldable pub good_delay : ℕ → Bool
good_delay delay = nat_le 1 delay && nat_le delay 24

-- 6, then 7 field by field in the order in which they are looked at, then 8: no shift that 64 bits cannot make; then 29.
abbrev pub field_tests : Params → List (List Refusal)
field_tests p =
    unless (good_periods p) (refusal 6 [])
    ∷ field_fault 0 (pos p.bits) 2 8
    ∷ field_fault 1 (pos p.q_shift) 0 15
    ∷ field_fault 2 (pos p.block_log2) 8 15
    ∷ field_fault 3 (pos p.agc_init) 0 16777215
    ∷ field_fault 4 p.integrator_max 0 4194303
    ∷ field_fault 5 (pos p.ted_shift) 0 30
    ∷ field_fault 6 (pos p.kp_shift) 0 40
    ∷ field_fault 7 (pos p.ki_shift) 0 40
    ∷ unless (nat_le p.agc_shift 63) (refusal 8 [])
    ∷ unless (good_delay p.delay) (refusal 29 [])
    ∷ []

unfoldable pub field_faults : Params → List Refusal
field_faults p = flatten (field_tests p)

-- ---- all of it

-- The faults of a sheet with its banks, 1 to 8 and then 29, in order.
unfoldable pub faults : Sheet → List Refusal
faults s =
    let taps : ℕ = s.params.taps in
    length_faults taps s.h s.g s.k ++ (bank_faults taps s.h s.g s.k ++ field_faults s.params)

-- What judging answers: the first fault, or nothing.
unfoldable pub judged : Sheet → Refusal
judged s = first_of (faults s)
