-- What a call refuses of a state and of a block's sizes, after what judging refuses of the sheet.
-- (RULES 4. A number before a definition is that of the refusal it decides.)
use Rattle.std.specs.Prelude.{ℕ, ◌+◌, ◌/◌, ◌%◌, min, Bool, ◌&&◌, ◌||◌, eqb, leb, ltb, pos, neg_ℤ}
use mathlib.Core.List.{List, [], ◌∷◌, ◌++◌, flatten}
use Rattle.std.specs.Int.Signed.{le_z, lt_z}
use Rattle.params.specs.declared.Params.{Params}
use Rattle.params.specs.Refusal.{Refusal, refusal, error_refusal, unless}
use Rattle.params.specs.Judge.{Sheet, faults}
use Rattle.arith.specs.Arith.{within}
use Rattle.fields.specs.Fields.{same_fields}
use Rattle.registers.specs.declared.Registers.{Registers}
use Rattle.registers.specs.Correct.{integrator_end}
use Rattle.state.specs.declared.Frontend.{Frontend}
use Rattle.state.specs.declared.FrontendError.{FrontendError}
use Rattle.state.specs.Start.{ring_places}

-- The state is good under a sheet: positions within the line and the queue, time and registers within their bounds, and counts that agree. What sheet it
-- holds is not asked.
unfoldable pub good_state : Params → Frontend → Bool
good_state p f =
    let r : Registers = f.registers in
    ltb f.head p.taps && le_z (pos 0) r.t_acc && lt_z r.t_acc (pos 67108864)
    && within (neg_ℤ (integrator_end p)) (integrator_end p) r.v
    && leb p.period_min r.period && leb r.period p.period_max && leb r.gain_acc 16777215
    && eqb f.waiting (min r.symbols p.delay) && ltb f.oldest ring_places && leb r.symbols f.samples

-- 9: a block can go on from the state: it holds this sheet, and is good under it.
unfoldable pub can_go_on : Params → Frontend → Bool
can_go_on p f = same_fields p f.params && good_state p f

-- 1 to 8, 29, then 9, of a sheet and a state.
abbrev pub state_faults : Sheet → Frontend → List Refusal
state_faults s f = faults s ++ unless (can_go_on s.params f) (refusal 9 [])

-- How many pairs of so many sample values a block takes, with so many output places: all, or as many as there are 20 places for. Both are rounded down.
unfoldable pub pairs_taken : ℕ → ℕ → ℕ
pairs_taken values places = min (values / 2) (places / 20)

-- 10 to 12, of so many sample values and output places: an odd number of values, be they taken or not; values, but fewer than 20 places; more samples in all
-- than 2^63 - 1, with the pairs that would be taken.
unfoldable pub size_faults : Frontend → ℕ → ℕ → List Refusal
size_faults f values places =
    flatten
    (unless (eqb (values % 2) 0) (refusal 10 [])
    ∷ unless (eqb values 0 || leb 20 places) (refusal 11 [])
    ∷ unless (leb (f.samples + pairs_taken values places) 9223372036854775807) (refusal 12 [])
    ∷ [])

-- 1 to 8, 29, then 9 to 12, of a block of so many.
unfoldable pub block_faults : Sheet → Frontend → ℕ → ℕ → List Refusal
block_faults s f values places = state_faults s f ++ size_faults f values places

-- The number of each refusal of a call.
abbrev pub frontend_refusal : FrontendError → Refusal
frontend_refusal (FrontendError.Params e) = error_refusal e
frontend_refusal FrontendError.State = refusal 9 []
frontend_refusal FrontendError.OddInput = refusal 10 []
frontend_refusal FrontendError.ShortOutput = refusal 11 []
frontend_refusal FrontendError.TooManySamples = refusal 12 []
