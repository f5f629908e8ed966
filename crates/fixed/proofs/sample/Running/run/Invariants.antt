-- After n turns the block stands for the state after n samples, and the output begins with the symbols of these (Turns).
use Rattle.fixed.specs.Inside.{frontend_of}
use Rattle.fixed.proofs.Turns.{Turned}
use Rattle.fixed.proofs.sample.Running.run.Given as goal

abbrev pub invariant-loop-n : goal.invariant-loop-n
invariant-loop-n l =
    Turned l.sheet l.values l.initial.out (frontend_of l.sheet.params l.initial.self l.initial.rings)
    l.out (frontend_of l.sheet.params l.self l.rings) l.count l.clips l.n
