-- Refusals of a design, by their numbers. Definitions answer with one of these, and contracts read the enums of the code through the maps below.
use Rattle.std.specs.Prelude.{ℕ, List, [], ◌∷◌, ℤ, Float, Result, Ok, Err}
use Rattle.params.specs.declared.Params.{Params}
use Rattle.params.specs.Refusal.{Refusal, error_refusal}
use Rattle.design.specs.declared.DesignRegisters.{DesignRegisters}
use Rattle.design.specs.declared.DesignError.{DesignError}
use Rattle.design.specs.declared.DesignError.TheVariants.{SamplesPerSymbol, Taps, Bits, Trim}
use Rattle.design.specs.declared.SheetError.{SheetError}

-- A refusal's number and what it carries: the judge's refusals carry whole numbers, and a design's carry the float that was refused.
pub record DesignRefusal : Type 0 where
  pub number : ℕ
  pub carries : List ℤ
  pub floats : List Float

-- One of a design's, 14 to 17.
abbrev pub float_refusal : ℕ → List Float → DesignRefusal
float_refusal n xs = record { number = n; carries = []; floats = xs }

-- One of the judge's, 1 to 8 and 29.
abbrev pub judge_refusal : Refusal → DesignRefusal
judge_refusal r = record { number = r.number; carries = r.carries; floats = [] }

-- The number of each case of a design's refusal, and the float that it carries.
-- (RULES 6.3)
abbrev pub design_refusal : DesignError → DesignRefusal
design_refusal (SamplesPerSymbol sps) = float_refusal 14 (sps ∷ [])
design_refusal Taps = float_refusal 15 []
design_refusal Bits = float_refusal 16 []
design_refusal (Trim trim) = float_refusal 17 (trim ∷ [])

-- The same where a sheet is made from a design: the design's, or the judge's.
-- (RULES 6.4)
abbrev pub sheet_refusal : SheetError → DesignRefusal
sheet_refusal (SheetError.Design e) = design_refusal e
sheet_refusal (SheetError.Params e) = judge_refusal (error_refusal e)

-- What is answered: what was asked for, or a refusal and nothing else.
pub data Answer (A : Type 0) : Type 0 where
  accepted : A → Answer A
  refused : DesignRefusal → Answer A

-- What the code's two answers say in these terms.
abbrev pub design_answer : Result DesignRegisters DesignError → Answer DesignRegisters
design_answer (Ok r) = accepted r
design_answer (Err e) = refused (design_refusal e)

abbrev pub sheet_answer : Result Params SheetError → Answer Params
sheet_answer (Ok p) = accepted p
sheet_answer (Err e) = refused (sheet_refusal e)
