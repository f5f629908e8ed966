-- The row of a phase, cut out of an accepted bank as the code cuts it. It is the definition's row, and judging has accepted every row of the bank, so it is as
-- long and as light as the filter asks, and zero outside the detector's places where the bank is.
use Rattle.std.proofs.Common.{◌≡◌, ℕ, ◌+◌, ◌-◌, ◌*◌, ◌<◌, ◌≤◌, true, List, [], length, take, drop, ℤ, refl, ap, ◌∙◌, arith}
use Rattle.params.specs.Banks.{row_of, rows_faults, zero_outside, rows_outside}
use Rattle.params.proofs.RowsOf.{row-long, row-part, row-light, row-centred}
use Rattle.fixed.specs.Rows.{Row}

-- The part of a bank that goes to the filter.
abbrev pub part : ℕ → ℕ → List ℤ → List ℤ
part taps phase cs = take (phase * taps + taps - phase * taps) (drop (phase * taps) cs)

pub part-is : (taps phase : ℕ) (cs : List ℤ) → part taps phase cs ≡ row_of taps cs phase
part-is taps phase cs = row-part taps cs (phase * taps) phase refl

module _ (taps phase : ℕ) (below : phase < 64) (cs : List ℤ) (long : length cs ≡ 64 * taps) where
  pub part-long : length (part taps phase cs) ≡ taps
  part-long = ap length (part-is taps phase cs) ∙ row-long taps cs phase below long

  pub part-row : (bank : ℕ) → taps ≤ 64 → rows_faults taps bank cs 0 64 ≡ [] → Row (part taps phase cs)
  part-row bank short none = record { short = omega (arith, part-long); light = rw (part-is taps phase cs) (row-light taps cs bank phase below none) }

  pub part-centred : rows_outside taps cs 0 64 ≡ true → zero_outside (length (part taps phase cs)) 0 (part taps phase cs) ≡ true
  part-centred outside = rw (part-long, part-is taps phase cs) (row-centred taps cs phase below outside)
