use Rattle.std.proofs.Common.{◌≡◌, take}
use Rattle.std.specs.List.{FoldsTo}
use Rattle.rows.specs.Rows.{read}
use Rattle.rows.specs.Program.{after, rows_in, counted, Takes}
use Rattle.rows.proofs.program.Progress.piece.Given as goal

abbrev pub invariant-loop-b : goal.invariant-loop-b
invariant-loop-b g l = record {
  rows : FoldsTo (Takes g.R.Replay.gives) (counted l.fn.replay l.fn.self.tally) (rows_in (read l.fn.self.cursor l.fn.row) (take l.b-index l.bytes))
      (counted l.replay l.self.tally);
  place : read l.self.cursor l.row ≡ after (read l.fn.self.cursor l.fn.row) (take l.b-index l.bytes);
}
