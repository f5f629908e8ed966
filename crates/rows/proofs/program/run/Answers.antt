-- `rows::program::run`: the rows of the bytes so far are taken, and a read puts the rows of its bytes behind them (WholeRows).
-- Before the first read there are neither bytes nor rows.
use Rattle.std.proofs.Common.{rules, ◌≡◌, ℕ, List, [], ◌++◌, take, sym, ap}
use Rattle.rows.specs.Rows.{ReadRow, read, start, none_counted}
use Rattle.rows.specs.Program.{after, rows_in, counted, Takes}
use Rattle.rows.proofs.WholeRows.{rows-both, after-both, FoldsTo-same, FoldsTo-append, Consumes-none, Consumes-more}
use Rattle.rows.proofs.program.run.Goals as goal

pub loop-init : goal.loop-init
unfolding after rows_in
loop-init g c =
    let tally : c.default-progress.result.tally ≡ none_counted = search rules in
    let cursor : c.default-progress.result.cursor ≡ start = search rules in (
      [],
      Consumes-none (g.I.Read.remaining c.args.input.now),
      ap (λ (t : _). counted c.args.replay.now t) (sym tally),
      ap (λ (r : _). read r c.args.row.now) cursor,
    )

pub loop-preserved : goal.loop-preserved
loop-preserved g c =
    let h = c.loop.invariant in
    let xs : List ℕ = take c.in_ok-n.n c.read.new.buf in
    let first : ReadRow = read start c.args.row.now in
    let t : ReadRow = read c.loop.progress.cursor c.loop.row in
    let before = counted c.args.replay.now none_counted in
    let read_yet = counted c.loop.replay c.loop.progress.tally in
    let now = counted c.piece.new.replay c.piece.new.self.tally in
    let gives = g.I.Read.remaining in (
      h.0 ++ xs,
      Consumes-more (gives c.args.input.now) (gives c.loop.input) (gives c.read.new.self) h.0 xs h.1 c.in_ok-n.ensures.bytes.0,
      FoldsTo-same (Takes g.R.Replay.gives) _ _ before now (rows-both h.0 xs first t h.3)
          (FoldsTo-append (Takes g.R.Replay.gives) (rows_in first h.0) (rows_in t xs) before read_yet now h.2 c.piece.ensures.rows),
      after-both h.0 xs first t (read c.piece.new.self.cursor c.piece.new.row) h.3 c.piece.ensures.place,
    )
