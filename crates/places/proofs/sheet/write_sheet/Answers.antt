-- `sheet::write_sheet` meets its contract: its fields have their types, so the places that they are written to can be read.
use Rattle.places.proofs.Sheets.{sheet_readable}
use Rattle.places.proofs.sheet.write_sheet.Goals as goal

pub returns-clause-fits : goal.returns-clause-fits
returns-clause-fits c = rw c.write.ensures.written (sheet_readable c.args.p c.args.sheet.now c.write.ensures.typed)
