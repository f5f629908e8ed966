-- The numbers of refusals are above 0, so of several that are looked for one after the other the first that refuses is seen by its number.
use Rattle.std.proofs.Common.{◌<◌, lit<}
use Rattle.kinds.specs.declared.FieldError.{FieldError}
use Rattle.kinds.specs.declared.FieldError.TheVariants.{Malformed, OutOfRange}
use Rattle.kinds.specs.Kinds.{field_number}
use Rattle.params.proofs.Faults.{error-numbered}
use Rattle.state.proofs.Answers.{frontend-numbered}
use Rattle.offset.specs.declared.OffsetError.{OffsetError}
use Rattle.offset.specs.Offset.{offset_refusal}
use Rattle.retune.specs.declared.RetuneError.{RetuneError}
use Rattle.retune.specs.Refusal.{retune_refusal}
use Rattle.design.specs.declared.DesignError.{DesignError}
use Rattle.design.specs.declared.DesignError.TheVariants.{SamplesPerSymbol, Taps, Bits, Trim}
use Rattle.design.specs.declared.SheetError.{SheetError}
use Rattle.places.specs.declared.PlacesError.{PlacesError}
use Rattle.places.specs.declared.PlacesError.TheVariants.{State, Short}
use Rattle.places.specs.Refusal.{places_refusal}
use Rattle.calls.specs.declared.refusal.CallError.{CallError}
use Rattle.calls.specs.Refusal.{call_number}
use Rattle.design.specs.Refusal.{design_refusal, sheet_refusal}

pub field-numbered : (e : FieldError) → 0 < field_number e
field-numbered Malformed = lit< tt
field-numbered OutOfRange = lit< tt

pub retune-numbered : (e : RetuneError) → 0 < (retune_refusal e).number
retune-numbered (RetuneError.Params e) = error-numbered e
retune-numbered RetuneError.State = lit< tt
retune-numbered RetuneError.Taps = lit< tt
retune-numbered RetuneError.Ticket = lit< tt

pub offset-numbered : (e : OffsetError) → 0 < (offset_refusal e).number
offset-numbered (OffsetError.Params e) = error-numbered e
offset-numbered OffsetError.Period = lit< tt

pub design-numbered : (e : DesignError) → 0 < (design_refusal e).number
design-numbered (SamplesPerSymbol sps) = lit< tt
design-numbered Taps = lit< tt
design-numbered Bits = lit< tt
design-numbered (Trim trim) = lit< tt

pub sheet-numbered : (e : SheetError) → 0 < (sheet_refusal e).number
sheet-numbered (SheetError.Design e) = design-numbered e
sheet-numbered (SheetError.Params e) = error-numbered e

pub places-numbered : (e : PlacesError) → 0 < places_refusal e
places-numbered State = lit< tt
places-numbered Short = lit< tt

pub ruleset numbered = (field-numbered, error-numbered, frontend-numbered, retune-numbered, offset-numbered, sheet-numbered, places-numbered)

-- so a call that answers 0 is not refused
pub call_numbered : (e : CallError) → 0 < call_number e
call_numbered (CallError.Fields e) = field-numbered e
call_numbered (CallError.Params e) = error-numbered e
call_numbered (CallError.Frontend e) = frontend-numbered e
call_numbered (CallError.Retune e) = retune-numbered e
call_numbered (CallError.Offset e) = offset-numbered e
call_numbered (CallError.Design e) = sheet-numbered e
call_numbered (CallError.Places e) = places-numbered e
