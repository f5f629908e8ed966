-- `fixed::mix::Wheel::mix` meets its contract: sums and differences of two products of 16-bit numbers are no more than `without_scale` takes (Mixer), and
-- are the definition's.
use Rattle.std.proofs.Common.{ap, ◌∙◌, w16, w32, SFits, rules}
use Rattle.arith.proofs.Bits.{held}
use Rattle.arith.proofs.Widths.{sum_fits, sum_is}
use Rattle.fixed.specs.Mix.{unscaled, mixed}
use Rattle.fixed.proofs.Mixer.{sum-small, difference-fits, difference-is, difference-small}
use Rattle.fixed.proofs.mix.Wheel.mix.Goals as goal

pub overflow_sub-x : goal.overflow_sub-x
overflow_sub-x c = search (rules, difference-fits)

pub without_scale-requires : goal.without_scale-requires
without_scale-requires c = search (rules, difference-small)

pub overflow_add-x : goal.overflow_add-x
overflow_add-x c = search (rules, sum_fits)

pub without_scale-requires-2 : goal.without_scale-requires-2
without_scale-requires-2 c = search (rules, sum-small)

pub returns : goal.returns
unfolding mixed
returns c =
    let x : SFits w16 c.args.sample.i = search rules in
    let y : SFits w16 c.args.sample.q = search rules in
    let cos : SFits w16 c.at.result = search rules in
    let sin : SFits w16 c.at-2.result = search rules in
    let of-i = simp (c.from-c.ensures, c.from-s.ensures, c.from-x.ensures, c.from-y.ensures) at c.without_scale.ensures in
    let of-q = simp (c.from-c.ensures, c.from-s.ensures, c.from-x.ensures, c.from-y.ensures) at c.without_scale-2.ensures in
    let i = held w32 c.without_scale.result (search rules) ∙ of-i ∙ ap unscaled (difference-is x cos y sin) in
    let q = held w32 c.without_scale-2.result (search rules) ∙ of-q ∙ ap unscaled (sum_is x sin y cos) in
    simp (i, q, c.at.ensures, c.at-2.ensures)
