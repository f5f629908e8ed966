-- A symbol of a state changes the six registers as `Registers::step` does: the state's registers are defined by the same step.
-- What refusal 9 and the time test is all that the step asks of registers before they change.
use Rattle.std.proofs.Common.{◌≡◌, ◌<◌, true, pos, refl, ap, ◌∙◌, arith, lt-ltb, le-leb}
use lib.Signed.{le_z}
use Rattle.arith.proofs.Both.{and_both}
use Rattle.params.specs.declared.Params.{Params}
use Rattle.registers.specs.Step.{can_make_symbol, after_symbol}
use Rattle.state.specs.declared.Frontend.{Frontend}
use Rattle.fixed.specs.Sample.{found_in, with_symbol, falls}
use Rattle.state.specs.Check.{good_state}
use Rattle.fixed.specs.OneStep.{OneStep}
use Rattle.state.proofs.Going.{time, going}

can-make : (p : Params) (f : Frontend) → good_state p f ≡ true → falls f ≡ true → f.samples < 18446744073709551615 → can_make_symbol p f.registers ≡ true
unfolding can_make_symbol
can-make p f good soon room =
    let g = going p f good in
    and_both (and_both (and_both (ap (le_z (pos 0)) g.whole ∙ le-leb 0 (time f) (omega arith)) soon) (and_both g.loop.v.low g.loop.v.high))
    (lt-ltb f.registers.symbols 18446744073709551615 (omega (arith, g.few, room)))

pub one_step : OneStep
unfolding after_symbol found_in with_symbol
one_step s f good soon room = rw (can-make s.params f good soon room) refl
