-- Parts of an accepted row and of the line's numbers. Magnitudes only add up, so a part of a row has no more of them than the row; and what holds of each
-- number holds of each number of a part.
use Rattle.std.proofs.Common.{◌≡◌, ℕ, ◌+◌, ◌<◌, ◌≤◌, List, length, get_or, take, drop, ℤ, pos, nat_abs, sym, ap, ◌∙◌, add-one, arith, w32, to_z, of_z, length-drop, take-append-drop, length-take, length-take-le, get_or-drop, get_or-take}
use Rattle.arith.proofs.Bits.{back}
use Rattle.params.specs.Banks.{magnitudes}
use Rattle.params.proofs.Rows.{magnitudes-append, magnitudes-suc}
use Rattle.fixed.specs.Raised.{In32}
use Rattle.fixed.specs.Rows.{Row}
use Rattle.fixed.specs.Inside.{Beside}

-- ---- rows

pub mag-split : (row : List ℤ) (n : ℕ) → magnitudes (take n row) + magnitudes (drop n row) ≡ magnitudes row
mag-split row n = sym (magnitudes-append (take n row) (drop n row)) ∙ ap magnitudes (take-append-drop n row)

pub mag-each : (row : List ℤ) (n : ℕ) → n < length row → nat_abs (get_or row n (pos 0)) ≤ magnitudes row
mag-each row n h =
    let step : magnitudes (take (n + 1) row) ≡ magnitudes (take n row) + nat_abs (get_or row n (pos 0)) = rw add-one (magnitudes-suc row n h) in
    omega (arith, mag-split row (n + 1))

-- of a light row the coefficients are small
pub light-each : {row : List ℤ} → Row row → (n : ℕ) → n < length row → nat_abs (get_or row n (pos 0)) ≤ 131071
light-each {row} r n h = omega (arith, mag-each row n h, r.light)

-- and as the code reads them, from 32 bits
pub light-read : {row : List ℤ} → Row row → (n : ℕ) → n < length row → to_z w32 (of_z w32 (get_or row n (pos 0))) ≡ get_or row n (pos 0)
light-read {row} r n h = back w32 (get_or row n (pos 0)) (omega (arith, light-each r n h))

pub row-take : {row : List ℤ} (n : ℕ) → Row row → Row (take n row)
row-take {row} n r = record { short = omega (arith, length-take n row, r.short); light = omega (arith, mag-split row n, r.light) }

pub row_drop : {row : List ℤ} (n : ℕ) → Row row → Row (drop n row)
row_drop {row} n r = record { short = omega (arith, length-drop n row, r.short); light = omega (arith, mag-split row n, r.light) }

-- ---- the line's numbers

-- n numbers from place a on, as the code cuts them
pub beside-part : (a n : ℕ) (i q : List ℕ) → a + n ≤ 64 → length i ≡ 64 → length q ≡ 64 → In32 64 i → In32 64 q
    → Beside n (take n (drop a i)) (take n (drop a q))
beside-part a n i q h x y small-i small-q = record {
  long-i = long i (omega arith);
  long-q = long q (omega arith);
  small-i = small i small-i;
  small-q = small q small-q;
}
  where
    long : (l : List ℕ) → a + n ≤ length l → length (take n (drop a l)) ≡ n
    long l k = length-take-le n (drop a l) (omega (arith, length-drop a l))

    small : (l : List ℕ) → In32 64 l → In32 n (take n (drop a l))
    small l each m k = rw (get_or-take n (drop a l) m 0 k, get_or-drop a l m 0) (each (a + m) (omega arith))
