-- `symbol::Symbol::make` counts its clips within 8 bits: an output has at most two, and a symbol has six outputs.
-- Nothing has to be known of the sheet, the gain or the sums for that.
use Prim.Native.Nat.{◌+◌, ◌≤◌}
use native.Mathlib.Omega.{arith}
use Rattle.symbol.proofs.Clips.{output-two, amplified-two}
use Rattle.symbol.proofs.Symbol.make.Goals as goal
use Rattle.symbol.proofs.Symbol.make.Goals.{After-amplify-zk}

-- all six together, of which the code's sums take more and more
few : (c : After-amplify-zk) → c.output_of-y.result.clips + c.output_of-dy.result.clips + c.output_of-yk.result.clips + c.amplify-z.result.clips + c.amplify-dz.result.clips + c.amplify-zk.result.clips ≤ 12
few c =
    omega (
      arith,
      output-two _ c.output_of-y.ensures,
      output-two _ c.output_of-dy.ensures,
      output-two _ c.output_of-yk.ensures,
      amplified-two _ _ c.amplify-z.ensures,
      amplified-two _ _ c.amplify-dz.ensures,
      amplified-two _ _ c.amplify-zk.ensures,
    )

pub overflow_add-result : goal.overflow_add-result
overflow_add-result c = grind (arith, output-two, amplified-two)

pub overflow_add-result-2 : goal.overflow_add-result-2
overflow_add-result-2 c = grind (arith, output-two, amplified-two)

pub overflow_add-result-3 : goal.overflow_add-result-3
overflow_add-result-3 c = record { fits = omega (arith, few (goal.at.overflow_add-result-3 c).After-amplify-zk) }

pub overflow_add-result-4 : goal.overflow_add-result-4
overflow_add-result-4 c = record { fits = omega (arith, few (goal.at.overflow_add-result-4 c).After-amplify-zk) }

pub overflow_add-result-5 : goal.overflow_add-result-5
overflow_add-result-5 c = record { fits = omega (arith, few (goal.at.overflow_add-result-5 c).After-amplify-zk) }
