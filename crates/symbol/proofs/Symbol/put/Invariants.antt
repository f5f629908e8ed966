use Rattle.std.proofs.Common.{◌≡◌}
use lib.Seq.{paste}
use Rattle.symbol.proofs.Symbol.put.Given as goal

-- the first j places stand in the output, and all else is as it was
abbrev pub invariant-loop-j : goal.invariant-loop-j
invariant-loop-j l = l.out ≡ paste l.initial.out l.at l.places l.j
