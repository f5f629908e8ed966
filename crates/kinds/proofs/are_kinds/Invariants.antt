use Rattle.std.specs.Iterator.Adapters.{zip_first, zip_second}
use Rattle.std.specs.Slice.Iter.{iter_rest}
use Rattle.kinds.specs.Kinds.{are_kinds}
use Rattle.kinds.proofs.OfKind.{SoFar}
use Rattle.kinds.proofs.are_kinds.Given as goal

abbrev pub invariant-loop-kind : goal.invariant-loop-kind
invariant-loop-kind l =
    SoFar (are_kinds l.kinds l.places) l.good (iter_rest (zip_first l.kind-iterator)) (iter_rest (zip_second l.kind-iterator))
