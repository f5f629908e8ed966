-- The word and the three numbers go one behind the other, and together they are the line (Lines).
-- 70 bytes are room for them: four for the word, at most twenty for each number and a sign, and three for what follows these.
use Rattle.std.proofs.Common.{◌≡◌, ◌∙◌, ap, ◌+◌, ◌≤◌, length, w64, to_z, of_z, arith, rules}
use Rattle.print.specs.Print.{end_of}
use Rattle.print.proofs.Lines.{end_parts}
use Rattle.print.proofs.Writing.{joined, with_room}
use Rattle.print.proofs.lent.put_end.Goals as goal

pub returns-clause-put : goal.returns-clause-put
returns-clause-put c =
    let a = c.args in
    let fits : a.at + 70 ≤ length a.out.now = omega (arith, c.saturating_sub.ensures) in
    let same : to_z w64 (of_z w64 a.t) ≡ a.t = search rules in
    let samples = joined c.put_bytes-end.ensures c.put_digits-end.ensures.put in
    let symbols = joined (joined samples c.put_bytes-end-2.ensures) c.put_digits-end-2.ensures.put in
    let line = joined (joined (joined symbols c.put_bytes-end-3.ensures) c.put_number-end.ensures.put) c.put_bytes.ensures in
    with_room _ _ _ fits (end_parts _ _ _ ∙ ap (end_of a.samples a.symbols) same) line
