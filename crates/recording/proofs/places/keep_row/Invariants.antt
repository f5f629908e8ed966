use Rattle.std.proofs.Common.{◌≡◌, map, ◌+◌, length, drop}
use Rattle.std.proofs.lemmas.List.Edits.{sets}
use Rattle.arith.specs.Arith.{narrow_i32}
use Rattle.recording.proofs.places.keep_row.Given as goal

-- The numbers that are left, put behind those that are put, make of the bank what all of them make of it.
abbrev pub invariant-loop-i : goal.invariant-loop-i
invariant-loop-i l = record {
  length : length l.bank ≡ length l.initial.bank;
  left : sets l.initial.bank l.from (map narrow_i32 l.row) ≡ sets l.bank (l.start + l.i) (map narrow_i32 (drop l.i l.row));
}
