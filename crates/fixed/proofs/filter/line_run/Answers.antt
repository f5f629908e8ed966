-- `fixed::filter::line_run` meets its contract: what goes to the two loops, and what their sums are, is said of the run and its share (Shares).
use Rattle.std.proofs.Common.{sym, ap, ◌∙◌, arith, rules}
use Rattle.fixed.specs.TwoRuns.{together}
use Rattle.fixed.specs.Inside.{unraised_sums}
use Rattle.fixed.proofs.RowSums.{raised-wider}
use Rattle.fixed.proofs.Shares.{Lent, cut-at, share-rows, share-beside, share-is-run, share-few, run-row, run-long, run-beside, run-is}
use Rattle.fixed.proofs.filter.line_run.Goals as goal

pub detector_run-detected-requires-clause-row : goal.detector_run-detected-requires-clause-row
detector_run-detected-requires-clause-row c =
    let a = c.args in
    let i = c.line.inside in
    let line : Lent i.i i.q = record { long-i = search rules; long-q = search rules; small-i = c.line.invariant.0; small-q = c.line.invariant.1 } in
    let d = c.detector_of-d.ensures in
    let cut = cut-at d.0 d.1 c.clamp-begin.ensures c.clamp-end.ensures in
    let in_row = rw (sym c.rows.view_is) at c.requires.count_in_bounds.0 in
    let in-line = rw (sym c.rows.view_is) at c.requires.count_in_bounds.1 in
    share-rows c.rows.invariant line a.from a.place a.count in_row in-line cut

pub detector_run-detected-requires-clause-beside :
    goal.detector_run-detected-requires-clause-beside
detector_run-detected-requires-clause-beside c =
    let a = c.args in
    let i = c.line.inside in
    let line : Lent i.i i.q = record { long-i = search rules; long-q = search rules; small-i = c.line.invariant.0; small-q = c.line.invariant.1 } in
    let d = c.detector_of-d.ensures in
    let cut = cut-at d.0 d.1 c.clamp-begin.ensures c.clamp-end.ensures in
    let in_row = rw (sym c.rows.view_is) at c.requires.count_in_bounds.0 in
    let in-line = rw (sym c.rows.view_is) at c.requires.count_in_bounds.1 in
    (share-beside c.rows.invariant line a.from a.place a.count in_row in-line cut, c.requires.summed_upto.detected)

pub output_run-output-requires : goal.output_run-output-requires
output_run-output-requires c =
    let a = c.args in
    let i = c.line.inside in
    let line : Lent i.i i.q = record { long-i = search rules; long-q = search rules; small-i = c.line.invariant.0; small-q = c.line.invariant.1 } in
    let d = c.detector_of-d.ensures in
    let cut = cut-at d.0 d.1 c.clamp-begin.ensures c.clamp-end.ensures in
    let in_row = rw (sym c.rows.view_is) at c.requires.count_in_bounds.0 in
    let in-line = rw (sym c.rows.view_is) at c.requires.count_in_bounds.1 in (
      run-row c.rows.invariant line a.from a.place a.count in_row in-line cut,
      (run-beside c.rows.invariant line a.from a.place a.count in_row in-line cut, c.requires.summed_upto.output),
    )

pub returns : goal.returns
returns c =
    let a = c.args in
    let i = c.line.inside in
    let lent = c.rows.invariant in
    let line : Lent i.i i.q = record { long-i = search rules; long-q = search rules; small-i = c.line.invariant.0; small-q = c.line.invariant.1 } in
    let d = c.detector_of-d.ensures in
    let cut = cut-at d.0 d.1 c.clamp-begin.ensures c.clamp-end.ensures in
    let in_row = rw (sym c.rows.view_is) at c.requires.count_in_bounds.0 in
    let in-line = rw (sym c.rows.view_is) at c.requires.count_in_bounds.1 in
    let detected = c.detector_run-detected.ensures in
    let output = c.output_run-output.ensures in
    rw (sym c.rows.view_is, sym c.line.view_is) (record {
      of-h =
          detected.of-h
          ∙ ap (together a.before.detected.h) (share-is-run lent line a.from a.place a.count in_row in-line cut c.rows.inside.h.now lent.long-h lent.centred-h);
      of-g =
          detected.of-g
          ∙ ap (together a.before.detected.g) (share-is-run lent line a.from a.place a.count in_row in-line cut c.rows.inside.g.now lent.long-g lent.centred-g);
      of-k = output.of-k ∙ ap (together (unraised_sums a.before.output)) (run-is lent line a.from a.place a.count in_row in-line cut);
      few = λ m u.
          let few = detected.few m u.detected in
          record {
            detected = record {
              h = share-few lent line a.from a.place a.count in_row in-line cut m few.h;
              g = share-few lent line a.from a.place a.count in_row in-line cut m few.g;
            };
            output = raised-wider (omega (arith, run-long lent line a.from a.place a.count in_row in-line cut)) (output.few m u.output);
          };
    })
