-- `fixed::sample::Running::join` meets its contract: the mixed sample is the definition's, and so is the phase word that goes on.
use Rattle.std.proofs.Common.{sym, ◌∙◌, arith, slice_set, w32, rules}
use Rattle.arith.proofs.Bits.{held}
use Rattle.fixed.specs.Mix.{next_nco}
use Rattle.fixed.specs.Sample.{joined}
use Rattle.fixed.proofs.States.{head-below}
use Rattle.fixed.proofs.sample.Running.join.Goals as goal

pub set-requires : goal.set-requires
set-requires c =
    let r = rw (sym c.sheet.view_is) at c.requires in
    omega (arith, c.next_head-head.ensures, head-below _ _ r.0, r.1)

pub returns : goal.returns
unfolding joined next_nco
returns c =
    let x = c.args.self.now in
    let r = x.registers in
    let line = c.args.rings.now.line in
    let head = c.next_head-head.ensures in
    let nco = simp (held w32 c.sheet.inside.params.nco_step (search rules)) at c.next_nco-self.ensures in
    rw (sym c.sheet.view_is) (λ t. record {
      params = c.sheet.inside.params;
      registers = record { nco = nco t; t_acc = r.t_acc; v = r.v; period = r.period; gain_acc = r.gain_acc; symbols = r.symbols };
      line = (c.set.ensures ∙ (λ t. slice_set line (head t) (c.mix.ensures t))) t;
      head = head t;
      pending = c.args.rings.now.pending;
      oldest = x.queue.oldest;
      waiting = x.queue.waiting;
      samples = x.samples;
    })
