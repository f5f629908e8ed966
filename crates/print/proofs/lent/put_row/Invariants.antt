use Rattle.std.proofs.Common.{◌+◌, ◌-◌, ◌*◌, ◌≤◌, ℕ, List, [], ◌∷◌, ◌++◌, length, drop}
use Rattle.print.specs.Print.{Put, line_text}
use Rattle.print.proofs.lent.put_row.Given as goal

-- The line of the numbers that are left, put behind those that are, makes the whole line put; and 22 bytes are left for each of them.
abbrev pub invariant-loop-value : goal.invariant-loop-value
invariant-loop-value l = record {
  row : (r : ℕ) (left : List ℕ) → Put (line_text (drop l.value-index l.others ++ (l.last ∷ []))) l.out l.end r left
      → Put (line_text (l.others ++ (l.last ∷ []))) l.initial.out l.at r left;
  room : l.end + 22 * (length l.others - l.value-index + 1) ≤ length l.out;
}
