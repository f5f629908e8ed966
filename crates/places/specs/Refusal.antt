-- Why places are refused, or not written, by these numbers: 9 for what is no state, or no state that places take, and 11 where there are too few of them.
use Rattle.std.specs.Prelude.{ℕ}
use Rattle.places.specs.declared.PlacesError.{PlacesError}
use Rattle.places.specs.declared.PlacesError.TheVariants.{State, Short}

abbrev pub places_refusal : PlacesError → ℕ
places_refusal State = 9
places_refusal Short = 11
