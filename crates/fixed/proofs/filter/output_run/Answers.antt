-- `fixed::filter::output_run` meets its contract: each tap adds its coefficient's part (RowSums), and after the last the row is taken.
use Rattle.std.proofs.Common.{◌≡◌, ℕ, ◌+◌, length, ap, arith}
use Rattle.fixed.proofs.Parts.{light-each, light-read}
use Rattle.fixed.proofs.RowSums.{taken_none, taken_more, taken-upto, taken-all, raised-wider}
use Rattle.fixed.proofs.filter.output_run.Goals as goal

pub loop-n-init : goal.loop-n-init
loop-n-init c = taken_none c.args.k.now c.args.i.now c.args.q.now c.args.before

pub with_tap-s-requires-clause-raised_upto : goal.with_tap-s-requires-clause-raised_upto
with_tap-s-requires-clause-raised_upto c = raised-wider (omega (arith, c.requires.0.short)) (taken-upto c.loop-n.invariant 64 c.requires.1.1)

pub with_tap-s-requires-clause-c_bound : goal.with_tap-s-requires-clause-c_bound
with_tap-s-requires-clause-c_bound c =
    let n = c.loop-n.n in
    let h = c.loop-n-test.true in
    (rw (light-read c.requires.0 n h) (light-each c.requires.0 n h), (c.requires.1.0.small-i n h, c.requires.1.0.small-q n h))

pub loop-n-preserved : goal.loop-n-preserved
loop-n-preserved c =
    let n = c.loop-n.n in
    let h = c.loop-n-test.true in
    rw (c.with_tap-s.ensures, light-read c.requires.0 n h)
    (taken_more (light-each c.requires.0 n h) (c.requires.1.0.small-i n h) (c.requires.1.0.small-q n h) c.loop-n.invariant)

pub returns : goal.returns
returns c =
    let e : c.loop-n.n ≡ length c.args.k.now = omega arith in
    record {
      of-k = taken-all e c.loop-n.invariant;
      few = λ m u. rw (ap (λ (k : ℕ). m + k) e) at (taken-upto c.loop-n.invariant m u);
    }
