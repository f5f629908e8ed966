use Rattle.std.proofs.Common.{◌≡◌, ◌≤◌, length}
use Rattle.text.specs.Lines.{fault_of}
use Rattle.text.proofs.Splitting.{Left, fields_left}
use Rattle.text.proofs.lines.read_line.Given as goal

-- The worst fault so far with that of what is left is the line's, and setting the values of what is left gives what setting all gives.
abbrev pub invariant-loop-n : goal.invariant-loop-n
invariant-loop-n l = record {
  same_length : length l.out ≡ length l.initial.out;
  no_wrong_form : fault_of l.read ≤ 1;
  left : Left l.kinds l.line l.initial.out l.out l.n (fault_of l.read) (fields_left l.fields);
}
