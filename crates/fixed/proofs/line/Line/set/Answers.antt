-- `fixed::line::Line::set` meets its contract: each component changes at the place alone, and so do the pairs that they stand for (Paired).
use Rattle.std.proofs.Common.{◌≡◌, sym, ◌∙◌, arith, w32, rules}
use Rattle.arith.proofs.Bits.{held}
use Rattle.fixed.specs.Raised.{lowered}
use Rattle.fixed.proofs.Paired.{paired-set, in32-set}
use Rattle.fixed.proofs.line.Line.set.Goals as goal

pub invariant_of-self : goal.invariant_of-self
invariant_of-self c =
    let i = c.self.inside in (
      in32-set i.i c.args.at c.raise.result c.raise.ensures.small (omega arith) c.self.invariant.0,
      in32-set i.q c.args.at c.raise-2.result c.raise-2.ensures.small (omega arith) c.self.invariant.1,
    )

pub returns : goal.returns
returns c =
    let i = c.self.inside in
    let x : lowered c.raise.result ≡ c.args.m.i = c.raise.ensures.stands ∙ held w32 c.args.m.i (search rules) in
    let y : lowered c.raise-2.result ≡ c.args.m.q = c.raise-2.ensures.stands ∙ held w32 c.args.m.q (search rules) in
    rw (sym c.self.view_is) (paired-set i.i i.q c.args.at c.raise.result c.raise-2.result {m = c.args.m} (c.self.told.0 ∙ sym c.self.told.1) x y)
