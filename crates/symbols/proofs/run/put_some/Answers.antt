-- A call that refuses nothing takes one of the pairs that it is given or more, and never more than these (Taken).
use Rattle.std.proofs.Common.{◌≤◌, length, arith}
use Rattle.symbols.proofs.Taken.{takes_some, takes_given}
use Rattle.symbols.proofs.run.put_some.Goals as goal

pub overflow_mul-result : goal.overflow_mul-result
overflow_mul-result c =
    let a = c.args in
    let given = takes_given a.sheet.now a.state.now c.process.new.f a.values.now a.places.now c.process.new.out c.in_ok-done.done c.in_ok-done.ensures in
    omega (arith, given)

pub returns : goal.returns
returns c =
    let a = c.args in
    let given = takes_given a.sheet.now a.state.now c.process.new.f a.values.now a.places.now c.process.new.out c.in_ok-done.done c.in_ok-done.ensures in
    let some = takes_some a.sheet.now a.state.now c.process.new.f a.values.now a.places.now c.process.new.out c.in_ok-done.done c.in_ok-done.ensures in
    (given, λ (h : 2 ≤ length a.values.now). let one = some h in omega arith)
