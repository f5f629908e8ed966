-- Lists of faults. Every fault has a number other than 0, so an answer of nothing says that there is no fault at all,
-- and of faults that are looked for one after the other none then has any.
use Rattle.std.proofs.Common.{◌≡◌, ℕ, zero, suc, ◌<◌, Bool, true, false, List, [], ◌∷◌, ◌++◌, get_or, ℤ, refl, ap, arith, lit<}
use mathlib.Core.List.{flatten, append-eq-nil_iff}
use Rattle.params.specs.declared.Params.{Params}
use Rattle.params.specs.declared.ParamError.{ParamError}
use Rattle.params.specs.declared.ParamError.TheVariants.{Taps, BankLength, Coefficient, CoefficientSum, DetectorTaps}
use Rattle.params.specs.declared.ParamError.TheVariants.{PeriodBounds, Range, AgcShift, Delay}
use Rattle.params.specs.Refusal.{Refusal, nothing, error_refusal, unless, first_of}
use Rattle.params.specs.Banks.{coefficient_faults, row_faults, rows_faults, bank_faults}
use Rattle.params.specs.Judge.{Sheet, length_faults, field_faults, faults}

abbrev pub Numbered : List Refusal → Type 0
Numbered [] = Unit {0}
Numbered (r ∷ rs) = (0 < r.number) × Numbered rs

pub numbered-append : (a b : List Refusal) → Numbered a → Numbered b → Numbered (a ++ b)
numbered-append [] b p q = q
numbered-append (r ∷ a) b p q = (p.0, numbered-append a b p.1 q)

pub numbered-unless : (kept : Bool) (r : Refusal) → 0 < r.number → Numbered (unless kept r)
numbered-unless true r h = tt
numbered-unless false r h = (h, tt)

pub first-none : (rs : List Refusal) → Numbered rs → (first_of rs).number ≡ 0 → rs ≡ []
first-none [] n e = refl
first-none (r ∷ rs) n e = absurd (omega arith)

-- the other way round
pub none_first : (rs : List Refusal) → rs ≡ [] → first_of rs ≡ nothing
none_first rs e = ap first_of e

-- a rule that is not broken is kept
pub kept : (b : Bool) (r : Refusal) → unless b r ≡ [] → b ≡ true
kept true r e = refl
kept false r e = cc

-- of two lists, one after the other
pub none_left : (a b : List Refusal) → a ++ b ≡ [] → a ≡ []
none_left a b e = ((append-eq-nil_iff {p = a} {q = b}).0 e).0

pub none_right : (a b : List Refusal) → a ++ b ≡ [] → b ≡ []
none_right a b e = ((append-eq-nil_iff {p = a} {q = b}).0 e).1

-- faults that are looked for one after the other: where there is none, there is none of the k-th kind
pub none-at : (ls : List (List Refusal)) → flatten ls ≡ [] → (k : ℕ) → get_or ls k [] ≡ []
unfolding flatten
none-at [] e k = refl
none-at (l ∷ ls) e zero = none_left l (flatten ls) e
none-at (l ∷ ls) e (suc k) = none-at ls (none_right l (flatten ls) e) k

-- ---- kinds of faults that are looked for one after the other

-- the first fault of a kind that has one is the first of all
pub first-append : (a b : List Refusal) → 0 < (first_of a).number → first_of (a ++ b) ≡ first_of a
first-append [] b h = absurd (omega arith)
first-append (r ∷ a) b h = refl

-- a list of kinds, one step at a time
pub first-kind : (l : List Refusal) (ls : List (List Refusal)) → flatten (l ∷ ls) ≡ l ++ flatten ls
unfolding flatten
first-kind l ls = refl

pub no-kind : flatten {A = Refusal} [] ≡ []
unfolding flatten
no-kind = refl

pub ruleset one_by_one = (first-kind, no-kind)

-- an error's number is not 0
pub error-numbered : (e : ParamError) → 0 < (error_refusal e).number
error-numbered Taps = lit< tt
error-numbered BankLength = lit< tt
error-numbered (Coefficient b p v) = lit< tt
error-numbered (CoefficientSum b p v) = lit< tt
error-numbered (DetectorTaps b) = lit< tt
error-numbered PeriodBounds = lit< tt
error-numbered (Range f) = lit< tt
error-numbered AgcShift = lit< tt
error-numbered Delay = lit< tt

-- ---- the faults of judging

coefficients-numbered : (bank r : ℕ) (row : List ℤ) → Numbered (coefficient_faults bank r row)
unfolding coefficient_faults
coefficients-numbered bank r [] = tt
coefficients-numbered bank r (c ∷ row) = let rest = coefficients-numbered bank r row in search (numbered-append, numbered-unless, lit<)

row-numbered : (bank r : ℕ) (row : List ℤ) → Numbered (row_faults bank r row)
unfolding row_faults
row-numbered bank r row = search (numbered-append, numbered-unless, coefficients-numbered, lit<)

pub rows-numbered : (taps bank : ℕ) (cs : List ℤ) (r n : ℕ) → Numbered (rows_faults taps bank cs r n)
unfolding rows_faults
rows-numbered taps bank cs r zero = tt
rows-numbered taps bank cs r (suc n) = let rest = rows-numbered taps bank cs (suc r) n in search (numbered-append, row-numbered)

pub lengths-numbered : (taps : ℕ) (h g k : List ℤ) → Numbered (length_faults taps h g k)
unfolding length_faults flatten
lengths-numbered taps h g k = search (numbered-append, numbered-unless, lit<) depth 20

pub banks-numbered : (taps : ℕ) (h g k : List ℤ) → Numbered (bank_faults taps h g k)
unfolding bank_faults flatten
banks-numbered taps h g k = search (numbered-append, numbered-unless, rows-numbered, lit<) depth 20

pub fields-numbered : (p : Params) → Numbered (field_faults p)
unfolding field_faults flatten
fields-numbered p = search (numbered-append, numbered-unless, lit<) depth 30

pub faults-numbered : (s : Sheet) → Numbered (faults s)
unfolding faults
faults-numbered s = search (numbered-append, lengths-numbered, banks-numbered, fields-numbered)

-- ---- what is told of a kind

-- where nothing is told of a row or of a kind, it has no fault
pub row-none : (bank r : ℕ) (row : List ℤ) → first_of (row_faults bank r row) ≡ nothing → row_faults bank r row ≡ []
row-none bank r row e = first-none _ (row-numbered bank r row) (ap (λ (r : Refusal). r.number) e)

pub rows-none : (taps bank : ℕ) (cs : List ℤ) → first_of (rows_faults taps bank cs 0 64) ≡ nothing → rows_faults taps bank cs 0 64 ≡ []
rows-none taps bank cs e = first-none _ (rows-numbered taps bank cs 0 64) (ap (λ (r : Refusal). r.number) e)

pub lengths-none : (taps : ℕ) (h g k : List ℤ) → first_of (length_faults taps h g k) ≡ nothing → length_faults taps h g k ≡ []
lengths-none taps h g k e = first-none _ (lengths-numbered taps h g k) (ap (λ (r : Refusal). r.number) e)

pub banks-none : (taps : ℕ) (h g k : List ℤ) → first_of (bank_faults taps h g k) ≡ nothing → bank_faults taps h g k ≡ []
banks-none taps h g k e = first-none _ (banks-numbered taps h g k) (ap (λ (r : Refusal). r.number) e)

-- kinds of which each was answered for
pub ruleset kinds = (first-kind, no-kind, first-append, error-numbered, rows-none, lengths-none, banks-none)
