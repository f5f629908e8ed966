-- After n turns the first n places of the line hold what the two arrays say.
use Rattle.state.specs.Start.{no_pair}
use Rattle.arith.proofs.Filled.{Filled}
use Rattle.fixed.proofs.Paired.{pair_at}
use Rattle.fixed.proofs.line.Line.lowered.Given as goal

abbrev pub invariant-loop-n : goal.invariant-loop-n
invariant-loop-n l = Filled no_pair (pair_at l.self-inside.i l.self-inside.q) l.n l.initial.line l.line
