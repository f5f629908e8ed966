-- A call that refuses nothing takes one of the pairs that it is given or more, and never more than these.
use Rattle.std.proofs.Common.{◌≡◌, ◌*◌, ◌≤◌, List, length, ℤ, sym, ap, ◌∙◌, arith, Ok}
use Rattle.params.specs.Judge.{Sheet}
use Rattle.state.specs.declared.Frontend.{Frontend}
use Rattle.state.specs.Check.{pairs_taken}
use Rattle.state.proofs.Answers.{faultless, takes-some}
use Rattle.fixed.specs.declared.Processed.{Processed}
use Rattle.fixed.specs.Block.{Block, accepted, block_of, processed}
use Rattle.fixed.proofs.Refused.{no-faults, ran}

module _ (s : Sheet) (f after : Frontend) (values out written : List ℤ) (done : Processed)
    (told : processed (Ok done) after written ≡ block_of s f values out) where
  accepts : (block_of s f values out).refused.number ≡ 0
  accepts = ap (λ (b : Block). b.refused.number) (sym told)

  took : done.taken ≡ pairs_taken (length values) (length out)
  unfolding accepted
  took = ap (λ (b : Block). b.taken) (told ∙ ran s f values out accepts)

  pub takes_some : 2 ≤ length values → 1 ≤ done.taken
  takes_some h = rw took (takes-some f (faultless s f (length values) (length out) (no-faults s f values out accepts)).sizes h)

  pub takes_given : 2 * done.taken ≤ length values
  unfolding pairs_taken
  takes_given = omega (arith, took)
