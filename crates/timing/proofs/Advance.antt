-- What a block says that it took is the lesser of two counts, of which one is that of its pairs: so it is never more than these. A block that has a pair and
-- refuses nothing has 20 places, so neither count is 0.
use Prim.Native.Nat.{◌≤◌, ◌<◌}
use mathlib.Core.Path.{◌≡◌}
use native.Mathlib.Omega.{arith}
use mathlib.Core.List.{List}
use lib.ListN.{length}
use lib.IntN.{ℤ}
use Rattle.params.specs.Judge.{Sheet}
use Rattle.state.specs.declared.Frontend.{Frontend}
use Rattle.state.specs.Check.{pairs_taken}
use Rattle.state.proofs.Answers.{faultless, takes-some}
use Rattle.fixed.specs.Block.{pairs_of, accepted, block_of}
use Rattle.fixed.proofs.Turns.{pairs-long}
use Rattle.fixed.proofs.Refused.{no-faults, ran}
use Rattle.timing.specs.Timing.{CallsAdvance}
use Rattle.timing.proofs.Calls.{of-either}

module _ (s : Sheet) (f : Frontend) (values out : List ℤ) where
  given : (block_of s f values out).taken ≤ length (pairs_of values)
  unfolding accepted pairs_taken
  given =
      of-either s f values out (λ b. b.taken ≤ length (pairs_of values)) (omega (arith, pairs-long values)) (omega arith)

  some : (block_of s f values out).refused.number ≡ 0 → 0 < length (pairs_of values) → 0 < (block_of s f values out).taken
  unfolding accepted
  some none l =
      let sizes = (faultless s f (length values) (length out) (no-faults s f values out none)).sizes in
      rw (ran s f values out none) (takes-some f sizes (omega (arith, pairs-long values)))

pub calls_advance : CallsAdvance
calls_advance s f values out = record { given = given s f values out; some = some s f values out }
