-- Refusals, by their numbers. Every definition answers with one of these, and every contract reads an answer's enum through the maps below.
use Rattle.std.specs.Prelude.{ℕ, Bool, cond, List, [], ◌∷◌, ℤ, pos, Result, Ok, Err}
use Rattle.params.specs.declared.Bank.{Bank}
use Rattle.params.specs.declared.Bank.TheVariants.{H, G, K}
use Rattle.params.specs.declared.Field.{Field}
use Rattle.params.specs.declared.Field.TheVariants.{Bits, QShift, BlockLog2, AgcInit, IntegratorMax, TedShift, KpShift, KiShift}
use Rattle.params.specs.declared.ParamError.{ParamError}
use Rattle.params.specs.declared.ParamError.TheVariants.{Taps, BankLength, Coefficient, CoefficientSum, DetectorTaps}
use Rattle.params.specs.declared.ParamError.TheVariants.{PeriodBounds, Range, AgcShift, Delay}

-- A refusal's number and what it carries. 0 is the number where nothing is refused.
pub record Refusal : Type 0 where
  pub number : ℕ
  pub carries : List ℤ

abbrev pub refusal : ℕ → List ℤ → Refusal
refusal n vs = record { number = n; carries = vs }

abbrev pub nothing : Refusal
nothing = refusal 0 []

-- A bank's number, and that of a field among those that 7 looks at.
abbrev pub bank_number : Bank → ℕ
bank_number H = 0
bank_number G = 1
bank_number K = 2

abbrev pub field_number : Field → ℕ
field_number Bits = 0
field_number QShift = 1
field_number BlockLog2 = 2
field_number AgcInit = 3
field_number IntegratorMax = 4
field_number TedShift = 5
field_number KpShift = 6
field_number KiShift = 7

-- The number of each case of a sheet's refusal, and its values in the order in which they are carried.
-- (RULES 1.4)
abbrev pub error_refusal : ParamError → Refusal
error_refusal Taps = refusal 1 []
error_refusal BankLength = refusal 2 []
error_refusal (Coefficient bank phase value) = refusal 3 (pos (bank_number bank) ∷ pos phase ∷ value ∷ [])
error_refusal (CoefficientSum bank phase sum) = refusal 4 (pos (bank_number bank) ∷ pos phase ∷ pos sum ∷ [])
error_refusal (DetectorTaps bank) = refusal 5 (pos (bank_number bank) ∷ [])
error_refusal PeriodBounds = refusal 6 []
error_refusal (Range field) = refusal 7 (pos (field_number field) ∷ [])
error_refusal AgcShift = refusal 8 []
error_refusal Delay = refusal 29 []

-- What an answer tells, by what its errors tell: nothing where there is none.
abbrev pub answer_refusal : {A E : Type 0} → (E → Refusal) → Result A E → Refusal
answer_refusal told (Ok _) = nothing
answer_refusal told (Err e) = told e

-- ---- lists of faults

-- A fault where a rule is broken, and none where it is kept.
abbrev pub unless : Bool → Refusal → List Refusal
unless kept r = cond kept [] (r ∷ [])

-- The first of some faults, or nothing.
abbrev pub first_of : List Refusal → Refusal
first_of [] = nothing
first_of (r ∷ rs) = r

-- The faults that an answer tells of: none, or its error's.
abbrev pub faults_of : {A E : Type 0} → (E → Refusal) → Result A E → List Refusal
faults_of told (Ok _) = []
faults_of told (Err e) = told e ∷ []
