use Rattle.places.proofs.InPairs.{Taken}
use Rattle.places.proofs.pairs.read.Given as goal

abbrev pub invariant-loop-n : goal.invariant-loop-n
invariant-loop-n g l = Taken g.T.TwoNumbers.made l.numbers l.n l.list
