-- Each number and its comma go behind those that are put, and the last with its line feed (Lines).
-- A number and what follows it take at most 22 bytes.
use Rattle.std.proofs.Common.{◌≡◌, ap, ◌+◌, ◌++◌, ◌*◌, ◌≤◌, [], ◌∷◌, sym, pos, w64, to_z, of_z, arith, rules}
use Rattle.std.proofs.Common.{get_or, length, length-append, length-set, drop_of_length-le}
use Rattle.print.specs.Number.{text_of}
use Rattle.print.specs.Print.{Put, line_text}
use Rattle.print.proofs.Lines.{no_numbers, number_more, last_number}
use Rattle.print.proofs.Writing.{joined, with_byte, with_room, nothing}
use Rattle.print.proofs.lent.put_row.Goals as goal

pub returns-in_default-clause-put : goal.returns-in_default-clause-put
returns-in_default-clause-put c = rw (no_numbers c.args.values.now c.in_default.ensures.cases) (nothing _ _ _ _)

pub loop-value-preserved : goal.loop-value-preserved
loop-value-preserved c =
    let l = c.loop-value in
    let n = c.put_number-end in
    let z = get_or c.in-Some.others.now l.value-index (pos 0) in
    let same : to_z w64 (of_z w64 z) ≡ z = search rules in
    let put : Put (text_of z) l.out l.end n.result n.new.out = rw (← same) n.ensures.put in
    let line = number_more c.in-Some.others.now c.in-Some.last.now l.value-index c.loop-value-test.true in
    record {
      row = λ r left rest. l.invariant.row r left (rw (← line) (joined (with_byte 44 put) rest));
      room = omega (arith, l.invariant.room, n.ensures.most, n.auto.out, length-set n.new.out n.result 44);
    }

pub returns-clause-put : goal.returns-clause-put
returns-clause-put c =
    let l = c.loop-value in
    let n = c.put_number-end-2 in
    let values = c.args.values.now in
    let others = c.in-Some.others.now in
    let last = c.in-Some.last.now in
    let whole : values ≡ others ++ (last ∷ []) = c.in-Some.ensures.cases.0 in
    let count = length-append others (last ∷ []) in
    let fits : c.args.at + 22 * length values ≤ length c.args.out.now = omega (arith, c.saturating_sub.ensures, ap length whole, count) in
    let same : to_z w64 (of_z w64 last) ≡ last = search rules in
    let put : Put (text_of last) l.out l.end n.result n.new.out = rw (← same) n.ensures.put in
    let row = l.invariant.row _ _ (rw (drop_of_length-le others c.loop-value-test.false, last_number last) (with_byte 10 put)) in
    with_room _ _ _ fits (ap line_text (sym whole)) row
