-- After n turns the first n numbers of both components stand in their arrays, raised.
use Rattle.std.proofs.Common.{get_or}
use Rattle.state.specs.Start.{no_pair}
use Rattle.fixed.proofs.Paired.{Laying}
use Rattle.fixed.proofs.line.Line.raised.Given as goal

abbrev pub invariant-loop-n : goal.invariant-loop-n
invariant-loop-n l = Laying (λ m. (get_or l.line m no_pair).i) l.n l.i × Laying (λ m. (get_or l.line m no_pair).q) l.n l.q
