-- What is claimed of a design's sheet: what its call wrote, judging reads as that sheet, and accepts.
use Rattle.std.specs.Prelude.{◌≡◌, List, take, ℤ, Float}
use Rattle.design.specs.Refusal.{accepted}
use Rattle.design.specs.Design.{sheet_of_design}
use Rattle.places.specs.Sheet.{params_at}
use Rattle.places.specs.Rates.{design_at, gains_at}
use Rattle.calls.specs.Calls.{judge_number, design_answer}

-- A design's sheet as its call wrote it: read again it is the sheet that the design makes, and judging accepts it with the same banks.
pub record Made (rates : List Float) (fields h g k sheet : List ℤ) : Type 0 where
  pub is : sheet_of_design (design_at rates fields) (gains_at fields) h g k ≡ accepted (params_at sheet)
  pub judges : judge_number sheet h g k ≡ 0

-- The first 18 places that a design's call leaves, where it refuses nothing, are the design's sheet.
abbrev pub DesignsCross : Type 0
DesignsCross =
    (rates : List Float) (fields h g k places : List ℤ) → (design_answer rates fields h g k places).number ≡ 0
    → Made rates fields h g k (take 18 (design_answer rates fields h g k places).places)
