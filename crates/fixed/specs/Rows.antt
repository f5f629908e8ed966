-- The rows that go to the filter: one of each bank, as judging accepts them.
use Rattle.std.specs.Prelude.{◌≡◌, ◌≤◌, true, List, length, ℤ}
use Rattle.params.specs.Banks.{magnitudes, zero_outside}

-- A row that judging accepts, or a part of one.
pub record Row (row : List ℤ) : Type 0 where
  pub short : length row ≤ 64
  pub light : magnitudes row ≤ 131071

-- One row of each bank.
pub record ThreeRows : Type 0 where
  pub h : List ℤ
  pub g : List ℤ
  pub k : List ℤ

-- They have one length, and those of h and g are zero outside the detector's places.
pub record Filterable (h g k : List ℤ) : Type 0 where
  pub row-h : Row h
  pub row-g : Row g
  pub row-k : Row k
  pub long-h : length h ≡ length k
  pub long-g : length g ≡ length k
  pub centred-h : zero_outside (length h) 0 h ≡ true
  pub centred-g : zero_outside (length g) 0 g ≡ true
