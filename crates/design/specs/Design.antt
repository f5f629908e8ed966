-- What a design answers, and what a design answers with banks and gains: all faults in the order in which they are looked for, of which the first is the
-- answer. (A number before a definition is that of the refusal it decides.)
use Rattle.std.specs.Prelude.{Bool, true, false, cond, ◌&&◌, leb, ℤ, negsuc, Float}
use mathlib.Core.List.{List, [], ◌∷◌, ◌++◌, flatten, map}
use Rattle.std.specs.Float.{fin}
use Rattle.std.specs.Float.Ieee.{lt, le}
use Rattle.params.specs.declared.Params.{Params}
use Rattle.params.specs.Judge.{good_taps, sheet_of, faults}
use Rattle.design.specs.declared.Design.{Design}
use Rattle.design.specs.declared.DesignRegisters.{DesignRegisters}
use Rattle.design.specs.declared.Gains.{Gains}
use Rattle.design.specs.Refusal.{DesignRefusal, float_refusal, judge_refusal, Answer, accepted, refused}
use Rattle.steps.specs.Steps.{two_to, least_sps}
use Rattle.design.specs.Registers.{sps_of, registers_of}

-- The first of some faults, or what was asked for.
abbrev pub first_or : {A : Type 0} → List DesignRefusal → A → Answer A
first_or [] a = accepted a
first_or (r ∷ rs) a = refused r

-- ---- the registers of a design
-- (RULES 6.3)

-- 14: at least 1.0625 samples in a symbol, and fewer than four.
unfoldable pub good_sps : Float → Bool
good_sps sps = le least_sps sps && lt sps (two_to 2)

-- 17: a trim of at most half a symbol either way.
unfoldable pub good_trim : Float → Bool
good_trim trim = le (fin true 1 (negsuc 0)) trim && le trim (fin false 1 (negsuc 0))

-- A fault where a rule is broken, and none where it is kept.
abbrev pub unless_good : Bool → DesignRefusal → List DesignRefusal
unless_good kept r = cond kept [] (r ∷ [])

-- 14 to 17; 15 is the judge's rule on taps.
unfoldable pub design_faults : Design → List DesignRefusal
design_faults d =
    flatten
    (unless_good (good_sps (sps_of d)) (float_refusal 14 (sps_of d ∷ []))
    ∷ unless_good (good_taps d.taps) (float_refusal 15 [])
    ∷ unless_good (leb 2 d.bits && leb d.bits 8) (float_refusal 16 [])
    ∷ unless_good (good_trim d.trim) (float_refusal 17 (d.trim ∷ []))
    ∷ [])

-- The answer: the first of them, or the registers.
unfoldable pub design_of : Design → Answer DesignRegisters
design_of d = first_or (design_faults d) (registers_of d (sps_of d))

-- ---- the whole sheet
-- (RULES 6.4)

-- The registers with the gains that were lent.
unfoldable pub params_of : DesignRegisters → Gains → Params
params_of r gains = record {
  taps = r.taps;
  nco_step = r.nco_step;
  period_nominal = r.period_nominal;
  period_min = r.period_min;
  period_max = r.period_max;
  ted_shift = r.ted_shift;
  kp = gains.kp;
  kp_shift = gains.kp_shift;
  ki = gains.ki;
  ki_shift = gains.ki_shift;
  integrator_max = r.integrator_max;
  agc_init = r.agc_init;
  agc_target = r.agc_target;
  agc_shift = r.agc_shift;
  bits = r.bits;
  q_shift = gains.q_shift;
  block_log2 = r.block_log2;
  delay = r.delay;
}

-- 1 to 8 and 29, of a sheet with its banks.
unfoldable pub judge_faults : Params → List ℤ → List ℤ → List ℤ → List DesignRefusal
judge_faults p h g k = map judge_refusal (faults (sheet_of p h g k))

-- The design's refusals, then the judge's of the sheet that the design makes, and the sheet where there is none.
unfoldable pub sheet_of_design : Design → Gains → List ℤ → List ℤ → List ℤ → Answer Params
sheet_of_design d gains h g k =
    let p : Params = params_of (registers_of d (sps_of d)) gains in
    first_or (design_faults d ++ judge_faults p h g k) p
