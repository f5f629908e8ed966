-- `rows::program::Progress::piece`: a byte may end a row, which is the next one that is taken (WholeRows).
use Rattle.std.proofs.Common.{◌≡◌, ◌+◌, take, get_or, true, false, refl, sym, ap, ◌∙◌, subst}
use Rattle.std.specs.List.{FoldsTo}
use Rattle.rows.specs.declared.Cursor.{Cursor}
use Rattle.rows.specs.declared.program.Progress.{Progress}
use Rattle.rows.specs.Rows.{ReadRow, read, with_byte}
use Rattle.rows.specs.Program.{opened, after, rows_in, counted, Takes}
use Rattle.rows.proofs.WholeRows.{place-more, taken-more}
use Rattle.rows.proofs.program.Progress.piece.Goals.{then-self, else-self}
use Rattle.rows.proofs.program.Progress.piece.Goals as goal

pub loop-b-init : goal.loop-b-init
unfolding after rows_in
loop-b-init g c = record { rows = refl; place = refl }

pub loop-b-preserved : goal.loop-b-preserved
loop-b-preserved g c =
    let T = Takes g.R.Replay.gives in
    let bytes = c.args.bytes.now in
    let i = c.loop-b.b-index in
    let first : ReadRow = read c.args.self.now.cursor c.args.row.now in
    let s : ReadRow = read c.loop-b.self.cursor c.loop-b.row in
    let t : ReadRow = read c.byte.new.self c.byte.new.row in
    let p = counted c.args.replay.now c.args.self.now.tally in
    let q = counted c.loop-b.replay c.loop-b.self.tally in
    let is : t ≡ with_byte (opened s) (get_or bytes i 0) =
    c.byte.ensures ∙ ap (λ (k : Cursor). with_byte (read k c.loop-b.row) (get_or bytes i 0)) c.begin.ensures in
    let inv = c.loop-b.invariant in
    let place = place-more T bytes i first s t p q c.loop-b-test.true inv.place is in
    let taken = taken-more T bytes i first s t p q c.loop-b-test.true inv.place is in
    elim c.if-self.branch [
      | then-self w ↦ record {
        rows = subst (λ (z : _). FoldsTo T p (rows_in first (take (i + 1) bytes)) z) (λ j. counted (sym w.replay-is j) ((sym w.self-is j).tally))
            (taken true (counted w.take_row.new.replay w.take_row.new.tally) w.if-self.true inv.rows (_, w.take_row.ensures, refl));
        place = ap (λ (k : Progress). read k.cursor c.byte.new.row) w.self-is ∙ place;
      }
      | else-self w ↦ record {
        rows = subst (λ (z : _). FoldsTo T p (rows_in first (take (i + 1) bytes)) z) (λ j. counted (sym w.replay-is j) ((sym w.self-is j).tally))
            (taken false q w.if-self.false inv.rows refl);
        place = ap (λ (k : Progress). read k.cursor c.byte.new.row) w.self-is ∙ place;
      }
    ]
