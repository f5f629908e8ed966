-- At least one digit, and no 0 before others: then the digits from the first on say what all say; at the end none is left (Reading).
use Rattle.std.proofs.Common.{◌≡◌, ◌∙◌, sym, ap, arith, get_or}
use Rattle.text.proofs.Reading.{one_byte, first_digit, no_digit, no_more}
use Rattle.text.specs.Fields.{kept}
use Rattle.text.proofs.fields.number.Goals.{in_default, in_default-2}
use Rattle.text.proofs.fields.number.Goals as goal

pub loop-b-init : goal.loop-b-init
loop-b-init c =
    let s = c.args.digits.now in
    record {
      left = elim c.if-digits-lt2.branch [
        | in_default w ↦ ap kept (one_byte s (omega arith))
        | in_default-2 w ↦ ap kept (first_digit s (omega arith) (λ (e : get_or s 0 0 ≡ 48). omega arith))
      ];
      cut = omega arith;
    }

pub returns-then-not-is_ascii_digit : goal.returns-then-not-is_ascii_digit
returns-then-not-is_ascii_digit c =
    let l = c.loop-b in
    sym (l.invariant.left ∙ ap kept (no_digit c.args.digits.now l.b-index l.size c.loop-b-test.true c.if-not-is_ascii_digit.ensures.cases))

pub returns : goal.returns
returns c =
    let l = c.loop-b in
    no_more c.args.digits.now l.b-index l.size c.loop-b-test.false l.invariant.cut ∙ sym l.invariant.left
