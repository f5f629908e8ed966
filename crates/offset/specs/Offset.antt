-- The offset of a period from the nominal one.
-- (RULES 6.1)
use Rattle.std.specs.Prelude.{ℕ, cond, ◌&&◌, [], ◌++◌, leb, eqb, ℤ, pos, ◌-ℤ◌, ◌*ℤ◌, Result, Ok, Err}
use Rattle.arith.specs.Arith.{nearest_away}
use Rattle.params.specs.declared.Params.{Params}
use Rattle.offset.specs.declared.OffsetError.{OffsetError}
use Rattle.params.specs.Refusal.{Refusal, refusal, nothing, error_refusal, unless, first_of}
use Rattle.params.specs.Judge.{Sheet, faults}

-- A refusal, or nothing, with a number of parts.
pub record Parts : Type 0 where
  pub refused : Refusal
  pub parts : ℤ

-- The number of each case of an offset's refusal: its sheet's, or 13.
abbrev pub offset_refusal : OffsetError → Refusal
offset_refusal (OffsetError.Params e) = error_refusal e
offset_refusal OffsetError.Period = refusal 13 []

-- What an answer tells: a refusal has 0 parts.
abbrev pub offset_parts : Result ℤ OffsetError → Parts
offset_parts (Ok parts) = record { refused = nothing; parts = parts }
offset_parts (Err e) = record { refused = offset_refusal e; parts = pos 0 }

-- How much longer the nominal period is, in parts per thousand million of the period, to the nearest whole number, ties away from zero: as much as the sender's
-- rate is above the nominal one, in parts per thousand million of the nominal rate. Positive where the sender is fast.
unfoldable pub parts_of : Params → ℕ → ℤ
parts_of p period = nearest_away ((pos p.period_nominal -ℤ pos period) *ℤ pos 1000000000) period

-- The answer: after 1 to 8 and 29, 13 for a period outside the sheet's bounds; 0 parts where it is refused.
unfoldable pub offset_of : Sheet → ℕ → Parts
offset_of s period =
    let p : Params = s.params in
    let r : Refusal = first_of (faults s ++ unless (leb p.period_min period && leb period p.period_max) (refusal 13 [])) in
    record { refused = r; parts = cond (eqb r.number 0) (parts_of p period) (pos 0) }
