-- `fixed::line::Line::raised` meets its contract: a turn lets one number more join each array (Paired), and after the last the arrays' pairs are the line.
use Rattle.std.proofs.Common.{◌≡◌, get_or, sym, ◌∙◌, arith, w32, rules}
use Rattle.arith.proofs.Bits.{held}
use Rattle.state.specs.Start.{no_pair}
use Rattle.fixed.specs.Raised.{lowered}
use Rattle.fixed.proofs.Paired.{laying-next, paired-line}
use Rattle.fixed.proofs.line.Line.raised.Goals as goal

pub loop-n-preserved : goal.loop-n-preserved
loop-n-preserved c =
    let l = c.loop-n in
    let m = get_or c.args.line.now l.n no_pair in
    let i = c.raise in
    let q = c.raise-in-loop-n in
    let i-is : lowered i.result ≡ m.i = i.ensures.stands ∙ held w32 m.i (search rules) in
    let q-is : lowered q.result ≡ m.q = q.ensures.stands ∙ held w32 m.q (search rules) in
    (laying-next l.invariant.0 i.result i-is i.ensures.small (omega arith), laying-next l.invariant.1 q.result q-is q.ensures.small (omega arith))

pub invariant_of-result : goal.invariant_of-result
invariant_of-result c =
    let l = c.loop-n in
    (λ m h. l.invariant.0.small m (omega arith), λ m h. l.invariant.1.small m (omega arith))

pub returns : goal.returns
returns c =
    let l = c.loop-n in
    paired-line l.i l.q c.args.line.now l.invariant.0.long l.invariant.1.long c.told-line
    (λ n h t. record { i = sym (l.invariant.0.stands n (omega arith)) t; q = sym (l.invariant.1.stands n (omega arith)) t })
