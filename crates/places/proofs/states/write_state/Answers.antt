-- `states::write_state` meets its contract: the slices are as long as a state, so each of its parts is written whole.
-- Its fields have their types, since the code holds them: so the slices are a state.
use Rattle.std.proofs.Common.{rules, ◌≡◌, length, take, arith, sym, ◌∙◌, ap, length-take}
use Rattle.places.specs.States.{slices, numbers_of, state_written}
use Rattle.std.proofs.lemmas.Grind.{common_steps}
use Rattle.places.proofs.Readable.{long-places}
use Rattle.places.proofs.Crossing.{written_fits}
use Rattle.places.proofs.states.write_state.Goals as goal

pub copy_from_slice-requires : goal.copy_from_slice-requires
copy_from_slice-requires c =
    let long = long-places (slices c.args.places.now c.args.line.now c.args.errors.now) (sym c.if-not-are_long.ensures) in
    let cut : length (take 10 c.args.places.now) ≡ 10 = omega (arith, length-take 10 c.args.places.now, long) in
    let made = rw c.in_ok-first.ensures.ok_part at c.first_places.ensures.made in
    cut ∙ sym (ap length made.1)

pub slice_bounds-copy_from_slice-end-2 : goal.slice_bounds-copy_from_slice-end-2
slice_bounds-copy_from_slice-end-2 c =
    let long = long-places (slices c.args.places.now c.args.line.now c.args.errors.now) (sym c.if-not-are_long.ensures) in
    let cut : length (take 10 c.args.places.now) ≡ 10 = omega (arith, length-take 10 c.args.places.now, long) in
    search rules

pub returns-clause-written : goal.returns-clause-written
unfolding numbers_of state_written
returns-clause-written c = grind (arith, common_steps)

pub returns-clause-fits : goal.returns-clause-fits
returns-clause-fits c =
    let a = c.args in
    written_fits a.f.now (slices a.places.now a.line.now a.errors.now) (returns-clause-written c) (search rules) (search rules) c.write.ensures.typed
