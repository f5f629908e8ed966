-- After n turns the components of the first n floats stand in the first n places, one more at each turn (`lib.Seq`, `paste-suc`).
-- What is behind them is as it was.
use Rattle.std.proofs.Common.{◌≡◌, ◌%◌, List, ◌++◌, map, length, get_or, drop, ℤ, refl, sym, ◌∙◌, zero-add, add-one, arith, take_all, w16, to_z, of_z, eq-eqb, le-leb}
use lib.ListN.{length-map, get_or-map}
use lib.Seq.{paste, paste-suc}
use lib.Ieee.{nan}
use Rattle.std.proofs.lemmas.Grind.{common_steps}
use Rattle.arith.proofs.Bits.{held}
use Rattle.input.specs.Input.{component_of, sample_answer}
use Rattle.input.proofs.sample.Goals as goal

pub returns-then-floats-ne0 : goal.returns-then-floats-ne0
unfolding sample_answer
returns-then-floats-ne0 c = grind (arith, common_steps)

pub returns-then-values-floats : goal.returns-then-values-floats
unfolding sample_answer
returns-then-values-floats c = grind (arith, common_steps)

pub loop-n-init : goal.loop-n-init
loop-n-init c = refl

pub loop-n-preserved : goal.loop-n-preserved
loop-n-preserved c =
    let n = c.loop-n.n in
    let floats = c.args.floats.now in
    let made : List ℤ = map component_of floats in
    let is : to_z w16 (of_z w16 c.component.result) ≡ get_or made n (component_of nan) =
    held w16 c.component.result c.component.type_inv ∙ c.component.ensures ∙ sym (get_or-map component_of floats n nan) in
    rw (is, c.loop-n.invariant, add-one n)
    (simp zero-add (simp zero-add at (paste-suc c.args.values.now 0 made n (component_of nan) (omega arith) (omega (arith, length-map floats component_of)))))

pub returns : goal.returns
unfolding sample_answer
returns c =
    let floats = c.args.floats.now in
    let values = c.args.values.now in
    let made : List ℤ = map component_of floats in
    let last : c.loop-n.n ≡ length floats = omega arith in
    let all : paste values 0 made (length floats) ≡ made ++ drop (length floats) values =
    simp (zero-add, take_all (length floats) made (omega (arith, length-map floats component_of))) in
    let written = rw last at c.loop-n.invariant ∙ all in
    rw (eq-eqb (length floats % 2) 0 c.if-floats-ne0.false, le-leb (length floats) (length values) c.if-values-floats.false)
    (λ i. record { number = 0; places = written i })
