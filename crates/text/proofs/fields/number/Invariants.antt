use Rattle.std.proofs.Common.{◌≡◌, ◌+◌, ◌^◌, ◌≤◌, drop}
use Rattle.text.specs.Fields.{digits_after, numeral, kept}
use Rattle.text.proofs.fields.number.Given as goal

-- What is left of the digits, behind the number so far, says what all of them say.
abbrev pub invariant-loop-b : goal.invariant-loop-b
invariant-loop-b l = record { left : kept (numeral l.digits) ≡ kept (digits_after l.size (drop l.b-index l.digits)); cut : l.size ≤ 2 ^ 63 + 1 }
