-- What an accepted sheet has, rule by rule. Judging answers nothing only where every rule is kept, and each kept rule is a fact on the sheet's numbers.
use Rattle.std.proofs.Common.{◌≡◌, ℕ, ◌*◌, ◌%◌, ◌<◌, ◌≤◌, true, List, [], ◌++◌, length, ℤ, pos, negsuc, refl, ap, arith, eqb-true, leb-true}
use Rattle.params.specs.declared.Params.{Params}
use Rattle.params.specs.Refusal.{Refusal, nothing, first_of}
use Rattle.params.specs.Banks.{rows_faults, bank_faults, rows_outside}
use Rattle.params.specs.Judge.{Sheet, good_taps, good_length, length_faults, good_periods, field_fault, good_delay, field_faults, faults, judged}
use Rattle.std.proofs.lemmas.Bool.Decides.{nat_tests}
use Rattle.params.proofs.Faults.{kept, none-at, none_left, none_right, first-none, first-append, faults-numbered, error-numbered}

-- ---- the rules as facts

pub record GoodTaps (taps : ℕ) : Type 0 where
  pub least : 4 ≤ taps
  pub most : taps ≤ 64
  pub even : taps % 2 ≡ 0

pub record GoodPeriods (p : Params) : Type 0 where
  pub above : 16777216 < p.period_min
  pub low : p.period_min ≤ p.period_nominal
  pub high : p.period_nominal ≤ p.period_max
  pub below : p.period_max < 67108864

pub record GoodFields (p : Params) : Type 0 where
  pub bits-least : 2 ≤ p.bits
  pub bits_most : p.bits ≤ 8
  pub q-shift : p.q_shift ≤ 15
  pub agc-init : p.agc_init ≤ 16777215
  pub integrator : (n : ℕ) × (p.integrator_max ≡ pos n) × (n ≤ 4194303)
  pub ted-shift : p.ted_shift ≤ 30
  pub kp-shift : p.kp_shift ≤ 40
  pub ki-shift : p.ki_shift ≤ 40
  pub agc-shift : p.agc_shift ≤ 63
  pub delay-least : 1 ≤ p.delay
  pub delay-most : p.delay ≤ 24

pub record GoodBanks (taps : ℕ) (h g k : List ℤ) : Type 0 where
  pub rows-h : rows_faults taps 0 h 0 64 ≡ []
  pub rows_g : rows_faults taps 1 g 0 64 ≡ []
  pub rows-k : rows_faults taps 2 k 0 64 ≡ []
  pub outside-h : rows_outside taps h 0 64 ≡ true
  pub outside-g : rows_outside taps g 0 64 ≡ true

pub record GoodLengths (taps : ℕ) (h g k : List ℤ) : Type 0 where
  pub good : GoodTaps taps
  pub long-h : length h ≡ 64 * taps
  pub long-g : length g ≡ 64 * taps
  pub long-k : length k ≡ 64 * taps

pub record Accepted (s : Sheet) : Type 0 where
  pub lengths : GoodLengths s.params.taps s.h s.g s.k
  pub banks : GoodBanks s.params.taps s.h s.g s.k
  pub periods : GoodPeriods s.params
  pub fields : GoodFields s.params

-- ---- each rule's fact

good-taps : (taps : ℕ) → good_taps taps ≡ true → GoodTaps taps
unfolding good_taps
good-taps taps e = record { least = grind (arith, nat_tests); most = grind (arith, nat_tests); even = grind (arith, nat_tests) }

long : (taps : ℕ) (bank : List ℤ) → good_length taps bank ≡ true → length bank ≡ 64 * taps
unfolding good_length
long taps bank e = eqb-true (length bank) (64 * taps) e

good-periods : (p : Params) → good_periods p ≡ true → GoodPeriods p
unfolding good_periods
good-periods p e = record {
  above = grind (arith, nat_tests);
  low = grind (arith, nat_tests);
  high = grind (arith, nat_tests);
  below = grind (arith, nat_tests);
}

-- a field's fault is none: its value is within its bounds
field-least : (place v lo hi : ℕ) → field_fault place (pos v) lo hi ≡ [] → lo ≤ v
field-least place v lo hi e = grind (arith, nat_tests)

field-most : (place v lo hi : ℕ) → field_fault place (pos v) lo hi ≡ [] → v ≤ hi
field-most place v lo hi e = grind (arith, nat_tests)

field-whole : (place : ℕ) (z : ℤ) (hi : ℕ) → field_fault place z 0 hi ≡ [] → (n : ℕ) × (z ≡ pos n) × (n ≤ hi)
field-whole place (pos n) hi e = (n, refl, field-most place n 0 hi e)
field-whole place (negsuc n) hi e = cc

-- the delay's rule is kept
delay-within : (delay : ℕ) → good_delay delay ≡ true → (1 ≤ delay) × (delay ≤ 24)
unfolding good_delay
delay-within delay e = (grind (arith, nat_tests), grind (arith, nat_tests))

-- ---- the three parts of judging

pub good-lengths : (taps : ℕ) (h g k : List ℤ) → length_faults taps h g k ≡ [] → GoodLengths taps h g k
unfolding length_faults
good-lengths taps h g k e = record {
  good = good-taps taps (kept _ _ (none-at _ e 0));
  long-h = long taps h (kept _ _ (none-at _ e 1));
  long-g = long taps g (kept _ _ (none-at _ e 2));
  long-k = long taps k (kept _ _ (none-at _ e 3));
}

pub good-banks : (taps : ℕ) (h g k : List ℤ) → bank_faults taps h g k ≡ [] → GoodBanks taps h g k
unfolding bank_faults
good-banks taps h g k e = record {
  rows-h = none-at _ e 0;
  rows_g = none-at _ e 1;
  rows-k = none-at _ e 2;
  outside-h = kept _ _ (none-at _ e 3);
  outside-g = kept _ _ (none-at _ e 4);
}

periods-of : (p : Params) → field_faults p ≡ [] → GoodPeriods p
unfolding field_faults
periods-of p e = good-periods p (kept _ _ (none-at _ e 0))

good-fields : (p : Params) → field_faults p ≡ [] → GoodFields p
unfolding field_faults
good-fields p e = record {
  bits-least = field-least 0 p.bits 2 8 (none-at _ e 1);
  bits_most = field-most 0 p.bits 2 8 (none-at _ e 1);
  q-shift = field-most 1 p.q_shift 0 15 (none-at _ e 2);
  agc-init = field-most 3 p.agc_init 0 16777215 (none-at _ e 4);
  integrator = field-whole 4 p.integrator_max 4194303 (none-at _ e 5);
  ted-shift = field-most 5 p.ted_shift 0 30 (none-at _ e 6);
  kp-shift = field-most 6 p.kp_shift 0 40 (none-at _ e 7);
  ki-shift = field-most 7 p.ki_shift 0 40 (none-at _ e 8);
  agc-shift = leb-true p.agc_shift 63 (kept _ _ (none-at _ e 9));
  delay-least = (delay-within p.delay (kept _ _ (none-at _ e 10))).0;
  delay-most = (delay-within p.delay (kept _ _ (none-at _ e 10))).1;
}

-- ---- all of it

pub no-faults : (s : Sheet) → faults s ≡ [] → Accepted s
unfolding faults
no-faults s e =
    let lengths = none_left _ _ e in
    let rest = none_right (length_faults s.params.taps s.h s.g s.k) _ e in
    let banks = none_left _ _ rest in
    let fields = none_right (bank_faults s.params.taps s.h s.g s.k) _ rest in
    record {
      lengths = good-lengths s.params.taps s.h s.g s.k lengths;
      banks = good-banks s.params.taps s.h s.g s.k banks;
      periods = periods-of s.params fields;
      fields = good-fields s.params fields;
    }

pub judged-none : (s : Sheet) → judged s ≡ nothing → faults s ≡ []
unfolding judged
judged-none s e = first-none (faults s) (faults-numbered s) (ap (λ (r : Refusal). r.number) e)

-- faults that are looked for after a sheet's own: the first of all is the sheet's, where it has one
pub judged-first : (s : Sheet) (rest : List Refusal) → 0 < (judged s).number → first_of (faults s ++ rest) ≡ judged s
unfolding judged
judged-first s rest h = first-append (faults s) rest h

-- what is told of a sheet, and then of more
pub ruleset judging = (judged-none, judged-first, error-numbered)
