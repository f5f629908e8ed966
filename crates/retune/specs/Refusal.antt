-- The refusals of a retune, by their numbers.
-- (RULES 4.4, 4.5)
use Rattle.std.specs.Prelude.{[]}
use Rattle.params.specs.Refusal.{Refusal, refusal, error_refusal}
use Rattle.retune.specs.declared.RetuneError.{RetuneError}

-- The number of each refusal of a retune, and its values in the order in which they are carried.
abbrev pub retune_refusal : RetuneError → Refusal
retune_refusal (RetuneError.Params e) = error_refusal e
retune_refusal RetuneError.State = refusal 9 []
retune_refusal RetuneError.Taps = refusal 27 []
retune_refusal RetuneError.Ticket = refusal 28 []
