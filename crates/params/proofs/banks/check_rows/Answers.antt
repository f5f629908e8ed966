-- The row that is refused is the next one of the bank, so its first fault is the bank's; and after the last row, all 64 were passed.
use Rattle.std.proofs.Common.{◌≡◌, ◌∙◌, ap, arith}
use Rattle.std.specs.Iterator.Adapters.{enumerate_count}
use Rattle.params.specs.Refusal.{bank_number}
use Rattle.params.specs.Banks.{rows_outside}
use Rattle.params.proofs.RowsOf.{rows, rows-first, cut-all}
use Rattle.params.proofs.banks.check_rows.Goals as goal

pub returns-in_err-check-clause-refused : goal.returns-in_err-check-clause-refused
returns-in_err-check-clause-refused c =
    let n = enumerate_count c.loop-phase.phase-iterator in
    grind (arith, rows, rows-first c.args.taps c.args.cs.now (bank_number c.args.bank) n)

pub returns-clause-centred : goal.returns-clause-centred
returns-clause-centred c t =
    let e : enumerate_count c.loop-phase.phase-iterator ≡ 64 = grind (arith, cut-all) in
    c.loop-phase.invariant.centred t ∙ ap (rows_outside c.args.taps c.args.cs.now 0) e
