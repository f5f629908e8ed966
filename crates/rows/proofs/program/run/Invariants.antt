use Rattle.std.proofs.Common.{◌≡◌, ℕ, List}
use Rattle.std.specs.List.{FoldsTo}
use Rattle.std.specs.Io.KnownBytes.{Consumes}
use Rattle.rows.specs.Rows.{read, start, none_counted}
use Rattle.rows.specs.Program.{after, rows_in, counted, Takes}
use Rattle.rows.proofs.program.run.Given as goal

abbrev pub invariant-loop : goal.invariant-loop
invariant-loop g l =
    (bytes : List ℕ)
    × Consumes (g.I.Read.remaining l.fn.input) (g.I.Read.remaining l.input) bytes
    × FoldsTo (Takes g.R.Replay.gives) (counted l.fn.replay none_counted) (rows_in (read start l.fn.row) bytes) (counted l.replay l.progress.tally)
    × (read l.progress.cursor l.row ≡ after (read start l.fn.row) bytes)
