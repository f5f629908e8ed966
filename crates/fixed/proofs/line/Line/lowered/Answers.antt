-- `fixed::line::Line::lowered` meets its contract: a number below 2^32, lowered, is one of 32 bits, and after the last turn each place holds its pair.
use Rattle.std.proofs.Common.{◌≡◌, ℕ, ◌<◌, ℤ, sym, ap, ◌∙◌, arith, w32, w64, to_z, of_z}
use Rattle.arith.proofs.Widths.{narrowed}
use Rattle.arith.proofs.Filled.{filled_next}
use Rattle.fixed.specs.Raised.{lowered}
use Rattle.fixed.proofs.RowSums.{lowered-fits}
use Rattle.fixed.proofs.Paired.{paired-line}
use Rattle.fixed.proofs.line.Line.lowered.Goals as goal

-- lowered, such a number is one of 32 bits signed
narrow-is : (u : ℕ) {z : ℤ} → u < 4294967296 → z ≡ lowered u → to_z w32 (of_z w32 (to_z w64 (of_z w64 z))) ≡ lowered u
narrow-is u h e = ap (λ (z : ℤ). to_z w32 (of_z w32 (to_z w64 (of_z w64 z)))) e ∙ narrowed tt (lowered-fits u h)

pub loop-n-preserved : goal.loop-n-preserved
loop-n-preserved c =
    let l = c.loop-n in
    let i = narrow-is _ (c.self.invariant.0 l.n (omega arith)) c.lower.ensures in
    let q = narrow-is _ (c.self.invariant.1 l.n (omega arith)) c.lower-in-loop-n.ensures in
    rw (i, q) (filled_next l.invariant (omega arith))

pub returns : goal.returns
returns c =
    let i = c.self.inside in
    let l = c.loop-n in
    let pairs = paired-line i.i i.q l.line c.self.told.0 c.self.told.1 (omega arith) (λ n h. l.invariant.first n (omega arith)) in
    sym pairs ∙ c.self.view_is
