-- `are_kinds` meets its contract: each turn looks at the first of the kinds and the first of the places that are left, and what it finds joins what
-- was found before. Where no kind is left, nothing is left to decide.
use Rattle.std.proofs.Common.{rules, ◌≡◌, ap, sym, ◌≤◌, ◌&&◌, length, take}
use Rattle.std.specs.Iterator.Adapters.{zip_first, zip_second}
use Rattle.std.specs.Slice.Iter.{iter_rest}
use Rattle.std.proofs.lemmas.Iterator.{empty_from_Zip}
use Rattle.std.proofs.lemmas.List.{length-take-le}
use Rattle.std.proofs.lemmas.Slice.Zip.{Zip-more}
use Rattle.kinds.proofs.OfKind.{places-taken, so-far-step, so-far-all}
use Rattle.kinds.proofs.are_kinds.Goals as goal

pub loop-kind-init : goal.loop-kind-init
loop-kind-init c =
    let a = c.args in
    let firsts : iter_rest (zip_first c.into_iter-kind-iterator.result) ≡ a.kinds.now = search rules in
    let seconds : iter_rest (zip_second c.into_iter-kind-iterator.result) ≡ take (length a.kinds.now) a.places.now = search rules in
    let enough : length a.kinds.now ≤ length a.places.now = search rules in
    rw (firsts, seconds) (record { is = places-taken a.kinds.now a.places.now; long = sym (length-take-le (length a.kinds.now) a.places.now enough) })

pub loop-kind-preserved : goal.loop-kind-preserved
loop-kind-preserved c =
    let next = Zip-more c.loop-kind.kind-iterator c.next.new.self _ _ c.in-Some-2.is c.next.ensures.steps in
    so-far-step c.loop-kind.invariant next.0 next.1 (ap (λ t. c.loop-kind.good && t) (search rules))

pub returns : goal.returns
returns c =
    let ends = empty_from_Zip c.loop-kind.kind-iterator c.next.new.self _ c.in-None.is c.next.ensures.steps c.loop-kind.invariant.long in
    so-far-all c.loop-kind.invariant ends.0
