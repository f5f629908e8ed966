-- The claim is what `inverse` proves.
use Rattle.text.proofs.Inverse.{inverse}
use Rattle.text.proofs.claims.inverse_holds.Goals as goal

pub returns : goal.returns
returns c = inverse
