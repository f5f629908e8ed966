-- Judging accepts a sheet that a design's call wrote. Its fields have their types: registers end in a cast, and the other fields were looked at.
-- And where the design's answer is a sheet, the judge has found no fault.
use Prim.Native.Nat.{ℕ, ◌^◌, ◌<◌}
use mathlib.Core.Path.{◌≡◌, refl, sym, ap, subst, ◌∙◌}
use mathlib.Core.Bool.{Bool, true, false, cond, ◌&&◌}
use mathlib.Core.List.{List, [], ◌∷◌, ◌++◌, flatten, map}
use native.Mathlib.Omega.{arith}
use lib.Dec.{leb, lit<}
use lib.ListN.{length, get_or, take, drop}
use lib.Seq.{take_at}
use lib.IntN.{ℤ, pos, nat_abs, ◌+ℤ◌, ◌-ℤ◌}
use lib.Signed.{mag}
use lib.Ieee.{Float}
use lib.Ieee.Casts.{to_unsigned-lt, to_signed_in}
use mir.Syntax.{w32}
use borrow.Author.Tests.{eq-eqb}
use Rattle.arith.specs.Arith.{mod_z, wrap_i32}
use Rattle.arith.proofs.Order.{fit-pn, minus-pn}
use Rattle.arith.proofs.Modulus.{mod-is}
use Rattle.kinds.specs.declared.Kind.TheVariants.{U8, U32, I32}
use Rattle.kinds.specs.Kinds.{at, is_kind}
use Rattle.kinds.proofs.OfKind.{own, u8_is, u32-is, i32-is}
use Rattle.kinds.proofs.Readable.{readable-at}
use Rattle.params.specs.declared.Params.{Params}
use Rattle.params.specs.Refusal.{Refusal, first_of}
use Rattle.params.specs.Judge.{good_taps, sheet_of, faults, judged}
use Rattle.params.proofs.Faults.{Numbered, faults-numbered}
use Rattle.design.specs.declared.Design.{Design}
use Rattle.design.specs.declared.Gains.{Gains}
use Rattle.design.specs.Refusal.{float_refusal, judge_refusal, Answer as Designed, accepted}
use Rattle.steps.specs.Steps.{period_nominal, period_min, period_max, integrator_max, nco_step, agc_target}
use Rattle.design.specs.Registers.{sps_of, registers_of}
use Rattle.design.specs.Design.{first_or, good_sps, good_trim, unless_good, design_faults, judge_faults, sheet_of_design, params_of as sheetMade}
use Rattle.places.specs.Sheet.{params_at, sheet_numbers}
use Rattle.places.specs.Rates.{design_kinds, design_number, design_at, gains_at}
use Rattle.places.specs.Crossing.{TypedSheet}
use Rattle.places.proofs.Readable.{readable-design}
use Rattle.places.proofs.Sheets.{sheets_cross}
use Rattle.kinds.specs.Answer.{first_number}
use Rattle.kinds.proofs.Answered.{then_is}
use Rattle.calls.specs.Calls.{judge_number, refused_by, written_by, design_answer}
use Rattle.calls.specs.Made.{Made, DesignsCross}
use Rattle.calls.proofs.Answers.{none_of}

-- ---- the types of a design's registers

nominal-is : (sps : Float) → is_kind U32 (pos (period_nominal sps)) ≡ true
unfolding period_nominal
nominal-is sps = u32-is _ (to_unsigned-lt 32 _)

min-is : (sps : Float) → is_kind U32 (pos (period_min sps)) ≡ true
unfolding period_min
min-is sps = u32-is _ (to_unsigned-lt 32 _)

max-is : (sps : Float) → is_kind U32 (pos (period_max sps)) ≡ true
unfolding period_max
max-is sps = u32-is _ (to_unsigned-lt 32 _)

target_is : (rms : Float) → is_kind U32 (pos (agc_target rms)) ≡ true
unfolding agc_target
target_is rms = u32-is _ (to_unsigned-lt 32 _)

-- a number of 31 bits and a sign
small_is : (z : ℤ) → mag z < 2147483648 → is_kind I32 z ≡ true
small_is z h = let pn = fit-pn {w = w32} {z = z} (record { sfits = h }) in i32-is z (omega (arith, pn.0)) (omega (arith, pn.1))

integrator-is : (sps : Float) → is_kind I32 (integrator_max sps) ≡ true
unfolding integrator_max
integrator-is sps = small_is (integrator_max sps) (to_signed_in 31 _)

wrapped-is : (v : ℤ) → is_kind I32 (wrap_i32 v) ≡ true
unfolding wrap_i32
wrapped-is v =
    let m : ℕ = mod_z (v +ℤ pos (2 ^ 31)) (2 ^ 32) in
    let r : ℤ = pos m -ℤ pos (2 ^ 31) in
    i32-is r (omega (arith, mod-is (v +ℤ pos (2 ^ 31)), minus-pn (pos m) (pos (2 ^ 31)))) (omega (arith, minus-pn (pos m) (pos (2 ^ 31))))

step_is : (offset rate : Float) → is_kind I32 (nco_step offset rate) ≡ true
unfolding nco_step
step_is offset rate = wrapped-is _

-- ---- the types of a design's sheet

module _ (rates : List Float) (fields : List ℤ) (e : design_number rates fields ≡ 0) where
  field-kind : (n : ℕ) → n < 8 → is_kind (get_or design_kinds n U8) (at fields n) ≡ true
  field-kind n h = (readable-at design_kinds fields (readable-design rates fields e).kinds n h).is

  field-u8 : (n : ℕ) → is_kind U8 (at fields n) ≡ true → is_kind U8 (pos (nat_abs (at fields n))) ≡ true
  field-u8 n is = subst (λ (z : ℤ). is_kind U8 z ≡ true) (sym (own U8 (at fields n) refl is)) is

  field-u32 : (n : ℕ) → is_kind U32 (at fields n) ≡ true → is_kind U32 (pos (nat_abs (at fields n))) ≡ true
  field-u32 n is = subst (λ (z : ℤ). is_kind U32 z ≡ true) (sym (own U32 (at fields n) refl is)) is

  typed : (sps : Float) → TypedSheet (sheetMade (registers_of (design_at rates fields) sps) (gains_at fields))
  unfolding sheetMade registers_of design_at gains_at
  typed sps =
      record {
        taps = field-u32 0 (field-kind 0 (lit< tt));
        nco_step = step_is (design_at rates fields).carrier_offset (design_at rates fields).sample_rate;
        period_nominal = nominal-is sps;
        period_min = min-is sps;
        period_max = max-is sps;
        ted_shift = u8_is 8 (lit< tt);
        kp = field-kind 3 (lit< tt);
        kp_shift = field-u8 4 (field-kind 4 (lit< tt));
        ki = field-kind 5 (lit< tt);
        ki_shift = field-u8 6 (field-kind 6 (lit< tt));
        integrator_max = integrator-is sps;
        agc_init = u32-is 262144 (lit< tt);
        agc_target = target_is (design_at rates fields).agc_rms;
        agc_shift = u8_is 4 (lit< tt);
        bits = field-u8 1 (field-kind 1 (lit< tt));
        q_shift = field-u8 7 (field-kind 7 (lit< tt));
        block_log2 = field-u8 2 (field-kind 2 (lit< tt));
        delay = u8_is 24 (lit< tt);
      }

-- ---- a design that is accepted

-- the sheet is the design's, and the judge has found nothing
record Passed (d : Design) (gains : Gains) (h g k : List ℤ) (p : Params) : Type 0 where
  is : sheet_of_design d gains h g k ≡ accepted p
  faultless : faults (sheet_of p h g k) ≡ []

-- the answer, by the tests of the design and the faults that the judge finds
abbrev answer_by : Float → Float → Bool → Bool → Bool → Bool → List Refusal → Params → Designed Params
answer_by sps trim a b c e rs p =
    first_or (flatten (unless_good a (float_refusal 14 (sps ∷ [])) ∷ unless_good b (float_refusal 15 []) ∷ unless_good c (float_refusal 16 [])
    ∷ unless_good e (float_refusal 17 (trim ∷ [])) ∷ []) ++ map judge_refusal rs) p

none_left : (sps trim : Float) (a b c e : Bool) (rs : List Refusal) (p : Params) → Numbered rs → refused_by (answer_by sps trim a b c e rs p) ≡ 0
    → (answer_by sps trim a b c e rs p ≡ accepted p) × (rs ≡ [])
unfolding flatten
none_left sps trim false b c e rs p n z = absurd (omega arith)
none_left sps trim true false c e rs p n z = absurd (omega arith)
none_left sps trim true true false e rs p n z = absurd (omega arith)
none_left sps trim true true true false rs p n z = absurd (omega arith)
none_left sps trim true true true true [] p n z = (refl, refl)
none_left sps trim true true true true (r ∷ rs) p n z = absurd (omega (arith, n.0))

passed : (d : Design) (gains : Gains) (h g k : List ℤ) → refused_by (sheet_of_design d gains h g k) ≡ 0
    → Passed d gains h g k (sheetMade (registers_of d (sps_of d)) gains)
unfolding sheet_of_design design_faults judge_faults
passed d gains h g k z =
    let p : Params = sheetMade (registers_of d (sps_of d)) gains in
    let none = none_left (sps_of d) d.trim (good_sps (sps_of d)) (good_taps d.taps) (leb 2 d.bits && leb d.bits 8) (good_trim d.trim)
    (faults (sheet_of p h g k)) p
    (faults-numbered (sheet_of p h g k)) z in
    record { is = none.0; faultless = none.1 }

-- ---- what its call leaves

judges : (p : Params) (h g k : List ℤ) → TypedSheet p → faults (sheet_of p h g k) ≡ [] → judge_number (sheet_numbers p) h g k ≡ 0
unfolding judge_number judged
judges p h g k t none =
    let number : (judged (sheet_of (params_at (sheet_numbers p)) h g k)).number ≡ 0 =
    ap (λ (q : Params). (judged (sheet_of q h g k)).number) (sheets_cross.back p) ∙ ap (λ (rs : List Refusal). (first_of rs).number) none in
    sym (then_is _ _ (sheets_cross.fit p t) (sym number))

pub designs_cross : DesignsCross
unfolding design_answer sheet_numbers
designs_cross rates fields h g k places e =
    let d : Design = design_at rates fields in
    let a : Designed Params = sheet_of_design d (gains_at fields) h g k in
    let p : Params = sheetMade (registers_of d (sps_of d)) (gains_at fields) in
    let room : ℕ = cond (leb 18 (length places)) 0 11 in
    let read = none_of (design_number rates fields) (first_number (refused_by a) room) e in
    let pass = passed d (gains_at fields) h g k (none_of (refused_by a) room read.1).0 in
    let left : take 18 (design_answer rates fields h g k places).places ≡ sheet_numbers p =
    ap (λ (b : Bool). take 18 (cond b (written_by a places) places)) (eq-eqb _ 0 e)
    ∙ ap (λ (x : Designed Params). take 18 (written_by x places)) pass.is
    ∙ take_at (sheet_numbers p) (drop 18 places) 18 refl in
    subst (Made rates fields h g k) (sym left) (record {
      is = pass.is ∙ ap accepted (sym (sheets_cross.back p));
      judges = judges p h g k (typed rates fields read.0 (sps_of d)) pass.faultless;
    })
