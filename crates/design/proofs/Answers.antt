-- The first of some faults, or what was asked for: a design's faults are looked at kind by kind, and come before the judge's.
-- Every fault of the judge has a number other than 0, so where it tells of none there is none.
use Prim.Native.Nat.{◌<◌}
use mathlib.Core.Path.{◌≡◌, refl, sym, ap, ◌∙◌, subst}
use mathlib.Core.List.{List, [], ◌∷◌, ◌++◌, flatten, map}
use native.Mathlib.Omega.{arith}
use lib.IntN.{ℤ}
use Rattle.params.specs.declared.ParamError.{ParamError}
use Rattle.params.specs.Refusal.{Refusal, nothing, first_of, error_refusal}
use Rattle.params.specs.Judge.{sheet_of, faults, judged}
use Rattle.params.proofs.Faults.{first-none, faults-numbered, error-numbered}
use Rattle.design.specs.declared.Design.{Design}
use Rattle.design.specs.declared.DesignRegisters.{DesignRegisters}
use Rattle.design.specs.declared.Gains.{Gains}
use Rattle.design.specs.declared.SheetError.{SheetError}
use Rattle.design.specs.Refusal.{DesignRefusal, judge_refusal, Answer, accepted, refused, sheet_answer}
use Rattle.std.specs.Prelude.{Err}
use Rattle.design.specs.Registers.{sps_of, registers_of}
use Rattle.design.specs.Design.{first_or, design_faults, design_of, params_of, judge_faults, sheet_of_design}

-- ---- faults that are looked at kind by kind

pub first_kind : (l : List DesignRefusal) (ls : List (List DesignRefusal)) → flatten (l ∷ ls) ≡ l ++ flatten ls
unfolding flatten
first_kind l ls = refl

pub no_kind : flatten {A = DesignRefusal} [] ≡ []
unfolding flatten
no_kind = refl

pub ruleset one_by_one = (first_kind, no_kind)

-- ---- a design's, then the judge's

abbrev IsAccepted : {A : Type 0} → Answer A → Type 0
IsAccepted (accepted a) = Unit {0}
IsAccepted (refused r) = ⊥

-- what is refused first is refused
earlier : {A B : Type 0} (fs gs : List DesignRefusal) (a : A) (b : B) {r : DesignRefusal} → refused r ≡ first_or fs a → refused r ≡ first_or (fs ++ gs) b
earlier [] gs a b e = absurd (subst IsAccepted (sym e) tt)
earlier (f ∷ fs) gs a b e = cc

-- and what is not leaves the answer to what follows
later : {A : Type 0} (fs : List DesignRefusal) (a : A) {r : A} → accepted r ≡ first_or fs a → (fs ≡ []) × (r ≡ a)
later [] a e = (refl, cc)
later (f ∷ fs) a e = absurd (subst IsAccepted e tt)

first_judged : {A : Type 0} (rs : List Refusal) (r : Refusal) (a : A) → 0 < r.number → r ≡ first_of rs → refused (judge_refusal r) ≡ first_or (map judge_refusal rs) a
first_judged [] r a h e = absurd (omega (arith, ap (λ (q : Refusal). q.number) e))
first_judged (q ∷ rs) r a h e = ap (λ (q : Refusal). refused (judge_refusal q)) e

-- the answer is the judge's
left : (d : Design) (gains : Gains) (h g k : List ℤ) (q : DesignRegisters) → accepted q ≡ design_of d
    → sheet_of_design d gains h g k ≡ first_or (judge_faults (params_of q gains) h g k) (params_of q gains)
unfolding design_of sheet_of_design
left d gains h g k q e = let l = later (design_faults d) (registers_of d (sps_of d)) e in rw (l.0, l.1) refl

pub design_refuses : (d : Design) (gains : Gains) (h g k : List ℤ) (r : DesignRefusal) → refused r ≡ design_of d → refused r ≡ sheet_of_design d gains h g k
unfolding design_of sheet_of_design
design_refuses d gains h g k r e =
    let p = params_of (registers_of d (sps_of d)) gains in
    earlier (design_faults d) (judge_faults p h g k) (registers_of d (sps_of d)) p e

pub judge_refuses : (d : Design) (gains : Gains) (h g k : List ℤ) (q : DesignRegisters) (e : ParamError) → accepted q ≡ design_of d
    → error_refusal e ≡ judged (sheet_of (params_of q gains) h g k) → sheet_answer (Err (SheetError.Params e)) ≡ sheet_of_design d gains h g k
unfolding judged judge_faults
judge_refuses d gains h g k q e made told =
    let p = params_of q gains in
    first_judged (faults (sheet_of p h g k)) (error_refusal e) p (error-numbered e) told ∙ sym (left d gains h g k q made)

pub judge_accepts : (d : Design) (gains : Gains) (h g k : List ℤ) (q : DesignRegisters) → accepted q ≡ design_of d
    → nothing ≡ judged (sheet_of (params_of q gains) h g k) → accepted (params_of q gains) ≡ sheet_of_design d gains h g k
unfolding judged judge_faults
judge_accepts d gains h g k q e told =
    let s = sheet_of (params_of q gains) h g k in
    let none : faults s ≡ [] = first-none (faults s) (faults-numbered s) (ap (λ (r : Refusal). r.number) (sym told)) in
    rw (left d gains h g k q e, none) refl

pub ruleset answers = (design_refuses, judge_refuses, judge_accepts)
