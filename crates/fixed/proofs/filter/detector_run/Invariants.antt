-- After n taps the sums of both rows are those of n taps on top of what came before, and no larger than n taps more can make them.
use Rattle.fixed.proofs.RowSums.{Added}
use Rattle.fixed.proofs.filter.detector_run.Given as goal

abbrev pub invariant-loop-n : goal.invariant-loop-n
invariant-loop-n l = Added l.h l.i l.q l.n l.initial.a l.a × Added l.g l.i l.q l.n l.initial.b l.b
