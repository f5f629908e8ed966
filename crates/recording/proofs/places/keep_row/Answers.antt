-- At first all numbers are left; setting behind the bank's end, where it begins there, sets nothing.
-- In the end no number is left, or no place (Rows).
use Rattle.std.proofs.Common.{map, min, ◌+◌, length, arith, ◌∙◌, sym, ◌-◌, ◌≡◌, refl}
use Rattle.std.proofs.lemmas.List.{length-take}
use Rattle.arith.specs.Arith.{narrow_i32}
use Rattle.recording.proofs.Rows.{sets-least, sets_last}
use Rattle.recording.proofs.places.keep_row.Goals as goal

pub loop-i-init : goal.loop-i-init
loop-i-init c =
    let bank = c.args.bank.now in
    let start : c.min-start.result + 0 ≡ min c.args.from (length bank) = omega arith in
    record { length = refl; left = rw start (sets-least bank c.args.from (map narrow_i32 c.args.row.now)) }

pub returns-clause-bank : goal.returns-clause-bank
returns-clause-bank c =
    let l = c.loop-i in
    let row = c.args.row.now in
    let start = c.min-start.result in
    sym (l.invariant.left ∙ sets_last narrow_i32 row l.i l.bank start (length l.bank - start) (omega (arith, length-take c.min-n.result row)) (omega arith))
