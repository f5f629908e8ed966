-- A sheet as 18 places, its fields in their order (RULES 1.1).
-- (RULES 8.2)
use Rattle.std.specs.Prelude.{ℕ, cond, List, [], ◌∷◌, ◌++◌, leb, length, drop, ℤ, pos, nat_abs}
use Rattle.params.specs.declared.Params.{Params}
use Rattle.kinds.specs.declared.Kind.{Kind}
use Rattle.kinds.specs.declared.Kind.TheVariants.{U8, U32, I16, I32}
use Rattle.kinds.specs.Kinds.{at, places_number}
use Rattle.kinds.specs.Answer.{Answer, answered}

-- The types of the fields.
abbrev pub sheet_kinds : List Kind
sheet_kinds =
    U32 ∷ I32 ∷ U32 ∷ U32 ∷ U32 ∷ U8 ∷ I16 ∷ U8 ∷ I16 ∷ U8 ∷ I32 ∷ U32 ∷ U32 ∷ U8 ∷ U8 ∷ U8 ∷ U8 ∷ U8 ∷ []

-- The refusal's number: 18 where there are not 18 places, 19 for one whose number is not of its field's type, and 0 for a sheet that can be read.
abbrev pub sheet_number : List ℤ → ℕ
sheet_number l = places_number sheet_kinds l

-- The fields. The number of an unsigned field is the place's without its sign: of a sheet that is not refused by 19 the place's own.
unfoldable pub params_at : List ℤ → Params
params_at l = record {
  taps = nat_abs (at l 0);
  nco_step = at l 1;
  period_nominal = nat_abs (at l 2);
  period_min = nat_abs (at l 3);
  period_max = nat_abs (at l 4);
  ted_shift = nat_abs (at l 5);
  kp = at l 6;
  kp_shift = nat_abs (at l 7);
  ki = at l 8;
  ki_shift = nat_abs (at l 9);
  integrator_max = at l 10;
  agc_init = nat_abs (at l 11);
  agc_target = nat_abs (at l 12);
  agc_shift = nat_abs (at l 13);
  bits = nat_abs (at l 14);
  q_shift = nat_abs (at l 15);
  block_log2 = nat_abs (at l 16);
  delay = nat_abs (at l 17);
}

-- The places of a sheet.
unfoldable pub sheet_numbers : Params → List ℤ
sheet_numbers p =
    pos p.taps ∷ p.nco_step ∷ pos p.period_nominal ∷ pos p.period_min ∷ pos p.period_max ∷ pos p.ted_shift
    ∷ p.kp ∷ pos p.kp_shift ∷ p.ki ∷ pos p.ki_shift ∷ p.integrator_max ∷ pos p.agc_init ∷ pos p.agc_target
    ∷ pos p.agc_shift ∷ pos p.bits ∷ pos p.q_shift ∷ pos p.block_log2 ∷ pos p.delay ∷ []

-- Writing a sheet: to the first 18 places, or 11 where there are fewer.
unfoldable pub sheet_written : Params → List ℤ → Answer
sheet_written p l = answered (cond (leb 18 (length l)) 0 11) (sheet_numbers p ++ drop 18 l) l
