-- No coefficient that was passed has a fault.
use Rattle.std.proofs.Common.{◌≡◌, [], take}
use Rattle.params.specs.Refusal.{bank_number}
use Rattle.params.specs.Banks.{coefficient_faults}
use Rattle.params.proofs.banks.Row.check.Given as goal

abbrev pub invariant-loop-value : goal.invariant-loop-value
invariant-loop-value l = coefficient_faults (bank_number l.bank) l.phase (take l.value-index l.self) ≡ []
