-- The claim is what `alike_lists` proves.
use Rattle.timing.proofs.Timing.{alike_lists}
use Rattle.timing.proofs.alike_ahead.Goals as goal

pub returns : goal.returns
returns c = alike_lists
