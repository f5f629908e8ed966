-- The number of each case of a call's refusal: that which the crate below gives it.
-- (RULES 8.5)
use Rattle.std.specs.Prelude.{ℕ}
use Rattle.kinds.specs.Kinds.{field_number}
use Rattle.params.specs.Refusal.{error_refusal}
use Rattle.state.specs.Check.{frontend_refusal}
use Rattle.retune.specs.Refusal.{retune_refusal}
use Rattle.offset.specs.Offset.{offset_refusal}
use Rattle.design.specs.Refusal.{sheet_refusal}
use Rattle.places.specs.Refusal.{places_refusal}
use Rattle.calls.specs.declared.refusal.CallError.{CallError}

abbrev pub call_number : CallError → ℕ
call_number (CallError.Fields e) = field_number e
call_number (CallError.Params e) = (error_refusal e).number
call_number (CallError.Frontend e) = (frontend_refusal e).number
call_number (CallError.Retune e) = (retune_refusal e).number
call_number (CallError.Offset e) = (offset_refusal e).number
call_number (CallError.Design e) = (sheet_refusal e).number
call_number (CallError.Places e) = places_refusal e
