use Rattle.places.proofs.InPairs.{Put}
use Rattle.places.proofs.pairs.write.Given as goal

abbrev pub invariant-loop-n : goal.invariant-loop-n
invariant-loop-n g l = Put g.T.TwoNumbers.one g.T.TwoNumbers.other l.list l.initial.numbers l.n l.numbers
