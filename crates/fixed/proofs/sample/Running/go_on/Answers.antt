-- `fixed::sample::Running::go_on` meets its contract: a time of at most 2^61 less one sample fits 64 bits.
use Rattle.std.proofs.Common.{◌-ℤ◌, arith, w64}
use Rattle.arith.proofs.Magnitude.{abs-minus}
use Rattle.arith.proofs.Bits.{back}
use Rattle.registers.specs.Step.{one}
use Rattle.fixed.specs.Sample.{without_symbol}
use Rattle.fixed.proofs.sample.Running.go_on.Goals as goal

pub returns : goal.returns
unfolding without_symbol
returns c p rings =
    let z = c.args.self.now.registers.t_acc in
    simp (back w64 z (omega (arith, c.requires.0)), back w64 (z -ℤ one) (omega (arith, c.requires.0, abs-minus z one)))
