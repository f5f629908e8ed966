use Rattle.std.proofs.Common.{◌≡◌, map}
use lib.Seq.{paste}
use Rattle.input.specs.Input.{component_of}
use Rattle.input.proofs.sample.Given as goal

-- the components of the first n floats stand in the first n places, and what is behind them is as it was
abbrev pub invariant-loop-n : goal.invariant-loop-n
invariant-loop-n l = l.values ≡ paste l.fn.values 0 (map component_of l.floats) l.n
