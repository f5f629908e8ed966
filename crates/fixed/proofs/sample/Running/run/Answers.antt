-- `fixed::sample::Running::run` meets its contract: each turn reads a pair, pushes it and writes its symbol, and keeps what holds of the turns before (Turns).
-- After the last turn all pairs are taken, and what holds is the contract.
use Rattle.std.proofs.Common.{◌+◌, ◌*◌, List, get_or, pos, sym, ap, ◌∙◌, subst, w16, rules}
use Rattle.arith.proofs.Bits.{held}
use Rattle.state.specs.declared.Pair.{Pair}
use Rattle.fixed.specs.Sample.{after, emitted}
use Rattle.fixed.specs.Inside.{frontend_of, made, Writes}
use Rattle.fixed.proofs.Turns.{pairs-at, turned_none, turned-ready, turned-made, turned-silent, some-all}
use Rattle.fixed.proofs.sample.Running.run.Goals.{in-Some, in_default}
use Rattle.fixed.proofs.sample.Running.run.Goals as goal

pub loop-n-init : goal.loop-n-init
loop-n-init c = let a = c.args in turned_none a.sheet.now a.values.now a.out.now (frontend_of a.sheet.now.params a.self.now a.rings.now)

pub push-requires : goal.push-requires
push-requires c =
    let a = c.args in
    let r = c.requires in
    turned-ready a.sheet.now a.values.now a.out.now (frontend_of a.sheet.now.params a.self.now a.rings.now) r.accepted r.good r.room.0 r.room.1 c.loop-n.invariant
    c.loop-n-test.true

pub loop-n-preserved : goal.loop-n-preserved
loop-n-preserved c =
    let a = c.args in
    let r = c.requires in
    let n = c.loop-n.n in
    let i = held w16 (get_or a.values.now (2 * n) (pos 0)) (search rules) in
    let q = held w16 (get_or a.values.now (2 * n + 1) (pos 0)) (search rules) in
    let at = pairs-at a.values.now n c.loop-n-test.true in
    let state = simp (i, q) at c.push.ensures.state in
    let symbol = simp (i, q) at c.push.ensures.symbol in
    let s = a.sheet.now in
    let f = frontend_of s.params a.self.now a.rings.now in
    elim c.match-push.branch [
      | in-Some w ↦
          rw (w.out-is, w.count-is, w.clips-is, w.from-clips.ensures)
          (turned-made s a.values.now a.out.now f r.accepted r.good r.room.0 r.room.1 w.in-Some.y c.loop-n.invariant c.loop-n-test.true at state
          (sym (ap made w.in-Some.is) ∙ symbol) w.put-count.ensures w.put-count.auto.out)
      | in_default w ↦
          rw (w.out-is, w.count-is, w.clips-is)
          (turned-silent s a.values.now a.out.now f r.accepted r.good r.room.0 r.room.1 c.loop-n.invariant c.loop-n-test.true at state
          (sym (ap made w.in_default.is) ∙ symbol))
    ]

pub returns-clause-state : goal.returns-clause-state
returns-clause-state c =
    let a = c.args in
    let s = a.sheet.now in
    let f = frontend_of s.params a.self.now a.rings.now in
    c.loop-n.invariant.is ∙ ap (after s f) (some-all s a.values.now a.out.now f c.loop-n.n c.loop-n-test.false)

pub returns-clause-written : goal.returns-clause-written
returns-clause-written c =
    let a = c.args in
    let s = a.sheet.now in
    let f = frontend_of s.params a.self.now a.rings.now in
    let l = c.loop-n in
    subst (λ (xs : List Pair). Writes (emitted s f xs) a.out.now l.out l.count l.clips) (some-all s a.values.now a.out.now f l.n c.loop-n-test.false)
    l.invariant.writes
