-- `symbol::Output::dot` meets its contract: two products of 16-bit numbers add up to at most 2^31, far from the ends of 64 bits.
use mir.Syntax.{w16}
use mir.Val.{SFits}
use Rattle.arith.proofs.Widths.{sum_fits, sum_is}
use Rattle.symbol.proofs.Output.dot.Goals as goal
use Rattle.symbol.proofs.Output.dot.Goals.{After-from-4}

module _ (c : After-from-4) where
  i : SFits w16 c.args.self.i
  i = record { sfits = search c depth 40 }

  i' : SFits w16 c.args.other.i
  i' = record { sfits = search c depth 40 }

  q : SFits w16 c.args.self.q
  q = record { sfits = search c depth 40 }

  q' : SFits w16 c.args.other.q
  q' = record { sfits = search c depth 40 }

pub overflow_add-result : goal.overflow_add-result
overflow_add-result c =
    let s = (goal.at.overflow_add-result c).After-from-4 in
    simp (c.from.ensures, c.from-2.ensures, c.from-3.ensures, c.from-4.ensures) (sum_fits (i s) (i' s) (q s) (q' s))

pub returns : goal.returns
returns c =
    let s = (goal.at.returns c).After-from-4 in
    simp (c.from.ensures, c.from-2.ensures, c.from-3.ensures, c.from-4.ensures) (sum_is (i s) (i' s) (q s) (q' s))
