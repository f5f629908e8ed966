-- `Slices::read` meets its contract: slices that are a state are one in each of their parts, which is what making it asks.
use Rattle.std.proofs.Common.{sym}
use Rattle.places.proofs.Readable.{are_state}
use Rattle.places.proofs.states.Slices.read.Goals as goal

pub state-requires : goal.state-requires
state-requires c = are_state _ (sym c.if-not-is_state.ensures)
