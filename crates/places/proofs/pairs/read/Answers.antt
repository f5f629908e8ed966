-- `pairs::read` meets its contract: a turn makes one member more of the next two numbers, and the members before it stay.
-- After the last there are as many as the numbers make.
use Rattle.std.proofs.Common.{rules, arith}
use Rattle.places.proofs.InPairs.{taken_next, taken-all}
use Rattle.places.proofs.pairs.read.Goals as goal

pub loop-n-init : goal.loop-n-init
loop-n-init g c = λ m d h. absurd (omega arith)

pub loop-n-preserved : goal.loop-n-preserved
loop-n-preserved g c =
    taken_next g.T.TwoNumbers.made c.args.numbers.now c.loop-n.n c.loop-n.list {x = c.make.result} c.loop-n.invariant (omega arith) (search rules)

pub returns : goal.returns
returns g c = taken-all _ _ _ _ c.loop-n.invariant (omega arith) (omega arith)
