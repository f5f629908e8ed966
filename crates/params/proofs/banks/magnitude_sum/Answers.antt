-- The sum over a row is that of its magnitudes, as the definition takes it.
use Rattle.std.proofs.Common.{◌∙◌, sym, nat_abs, rules, tests}
use Rattle.std.proofs.lemmas.Iterator.{YieldsList-from_map, YieldsList-from_slice}
use Rattle.std.proofs.lemmas.Iterator.Consumers.{sum_by_from_yields_List}
use Rattle.params.proofs.Rows.{magnitudes-sum}
use Rattle.params.proofs.banks.magnitude_sum.Goals as goal

pub returns-in-None : goal.returns-in-None
returns-in-None c =
    let row = c.args.row.now in
    sum_by_from_yields_List nat_abs row c.map.result c.sum.result c.sum.ensures.ran
    (YieldsList-from_map _ nat_abs (YieldsList-from_slice row cc) c.map.ensures.closure (λ x r q k. search (rules, tests)))
    ∙ sym (magnitudes-sum row)
