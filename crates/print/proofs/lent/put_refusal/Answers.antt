-- The word and the two numbers go one behind the other, and together they are the line (Lines).
-- 52 bytes are room for them: eight for the word, at most twenty for each number, and two for what follows these.
use Rattle.std.proofs.Common.{◌∙◌, ap, ◌+◌, ◌≤◌, length, arith}
use Rattle.print.specs.Print.{refused_of}
use Rattle.print.proofs.Lines.{refused_parts}
use Rattle.print.proofs.Writing.{joined, with_room}
use Rattle.print.proofs.lent.put_refusal.Goals as goal

pub returns-clause-put : goal.returns-clause-put
returns-clause-put c =
    let fits : c.args.at + 52 ≤ length c.args.out.now = omega (arith, c.saturating_sub.ensures) in
    let number = joined c.put_bytes-end.ensures c.put_digits-end.ensures.put in
    let line = joined (joined (joined number c.put_bytes-end-2.ensures) c.put_digits-end-2.ensures.put) c.put_bytes.ensures in
    with_room _ _ _ fits (refused_parts _ _ ∙ ap (λ n. refused_of n c.args.line) c.from.ensures) line
