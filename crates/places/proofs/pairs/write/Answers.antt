-- `pairs::write` meets its contract: a turn writes the two numbers of one member more, and those before them stay.
-- After the last no place is left.
use Rattle.std.proofs.Common.{rules, arith}
use Rattle.places.proofs.InPairs.{put-none, put_next, put_all}
use Rattle.places.proofs.pairs.write.Goals as goal

pub loop-n-init : goal.loop-n-init
loop-n-init g c = put-none _ _ _ _

pub loop-n-preserved : goal.loop-n-preserved
loop-n-preserved g c =
    put_next _ _ _ _ c.index-list-n.result c.loop-n.invariant (search rules) (search rules) (search rules) (search rules)

pub returns : goal.returns
returns g c = put_all _ _ _ _ c.loop-n.invariant (omega arith) (search rules)
