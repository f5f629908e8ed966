-- `params::Sheet::validate`: where nothing was refused by 1 and 2, no fault was found there, so the taps are good and the banks as long as judging them needs.
use Rattle.std.proofs.Common.{sym, ap, ◌∙◌, arith}
use Rattle.params.specs.Refusal.{error_refusal, answer_refusal}
use Rattle.params.proofs.Faults.{lengths-none}
use Rattle.params.proofs.Accepted.{good-lengths}
use Rattle.params.proofs.Sheet.validate.Goals as goal

pub check_banks-requires : goal.check_banks-requires
check_banks-requires c =
    let none = sym c.check_lengths.ensures ∙ ap (answer_refusal error_refusal) c.in_ok-check_lengths.was in
    let g = good-lengths _ _ _ _ (lengths-none _ _ _ _ none) in
    record { taps = (omega (arith, g.good.least), g.good.most); long = (g.long-h, (g.long-g, g.long-k)) }
