-- While the magnitudes have no bit above the lower 17, each is small, and none of the additions has wrapped: the sum is that of the coefficients so far, and
-- at most 131071 for each of them.
use Rattle.std.proofs.Common.{◌≡◌, ◌*◌, ◌≤◌, take}
use Rattle.params.specs.Banks.{magnitudes}
use Rattle.params.proofs.banks.narrow_sum.Given as goal

abbrev pub invariant-loop-c : goal.invariant-loop-c
invariant-loop-c l = l.bits ≤ 131071 → (l.sum ≡ magnitudes (take l.c-index l.row)) × (l.sum ≤ 131071 * l.c-index)
