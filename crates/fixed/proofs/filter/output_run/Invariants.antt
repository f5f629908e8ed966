-- After n taps the sums are those of n taps on top of what came before, and no larger than n taps more can make them.
use Rattle.fixed.proofs.RowSums.{Taken}
use Rattle.fixed.proofs.filter.output_run.Given as goal

abbrev pub invariant-loop-n : goal.invariant-loop-n
invariant-loop-n l = Taken l.k l.i l.q l.n l.initial.s l.s
