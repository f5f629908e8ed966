-- A state whose counts are small enough for places: each of the five tests, as a fact on its count.
use Prim.Native.Nat.{◌≤◌}
use mathlib.Core.Path.{◌≡◌}
use mathlib.Core.Bool.{true}
use borrow.Author.Tests.{le-leb}
use Rattle.arith.proofs.Both.{and_both}
use Rattle.state.specs.declared.Frontend.{Frontend}
use Rattle.places.specs.States.{are_counts, has_places}

pub record Placed (f : Frontend) : Type 0 where
  pub symbols : f.registers.symbols ≤ 9223372036854775807
  pub head : f.head ≤ 9223372036854775807
  pub oldest : f.oldest ≤ 9223372036854775807
  pub waiting : f.waiting ≤ 9223372036854775807
  pub samples : f.samples ≤ 9223372036854775807

pub has-places : (f : Frontend) → Placed f → has_places f ≡ true
unfolding are_counts
has-places f p =
    and_both (le-leb _ _ p.symbols)
    (and_both (le-leb _ _ p.head) (and_both (le-leb _ _ p.oldest) (and_both (le-leb _ _ p.waiting) (le-leb _ _ p.samples))))
