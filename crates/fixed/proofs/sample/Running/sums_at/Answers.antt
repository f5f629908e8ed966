-- `fixed::sample::Running::sums_at` meets its contract: the parts of the banks that go to the filter are the phase's rows of an accepted sheet, as the filter
-- takes them (PhaseRows). What it answers are the definition's sums of these rows.
use Rattle.std.proofs.Common.{◌≡◌, ℕ, ◌+◌, ◌*◌, ◌<◌, ◌≤◌, List, [], ◌∷◌, length, ℤ, sym, ◌∙◌, arith}
use Rattle.params.specs.Banks.{row_of}
use Rattle.params.specs.Refusal.{nothing}
use Rattle.params.specs.Judge.{Sheet, judged}
use Rattle.params.proofs.Accepted.{Accepted, no-faults, judged-none}
use Rattle.params.proofs.RowsOf.{row_inside}
use Rattle.state.specs.declared.Pair.{Pair}
use Rattle.symbol.specs.declared.Sums.{Sums}
use Rattle.fixed.specs.Filter.{sums_of, filtered}
use Rattle.fixed.specs.Rows.{Filterable}
use Rattle.fixed.proofs.PhaseRows.{part, part-is, part-long, part-row, part-centred}
use Rattle.fixed.proofs.sample.Running.sums_at.Goals as goal

module _ (s : Sheet) (judge : judged s ≡ nothing) (phase : ℕ) (below : phase < 64) where
  abbrev taps : ℕ
  taps = s.params.taps

  accepted : Accepted s
  accepted = no-faults s (judged-none s judge)

  short : taps ≤ 64
  short = accepted.lengths.good.most

  -- the phase's row lies within its bank
  inside : phase * taps + taps ≤ 64 * taps
  inside = row_inside taps s.h phase below

  -- The row of a bank that goes to the filter.
  abbrev row : List ℤ → List ℤ
  row cs = part taps phase cs

  row-long : (cs : List ℤ) → length cs ≡ 64 * taps → length (row cs) ≡ taps
  row-long cs long = part-long taps phase below cs long

  k-long : length (row s.k) ≡ taps
  k-long = row-long s.k accepted.lengths.long-k

  filterable : Filterable (row s.h) (row s.g) (row s.k)
  filterable =
      let l = accepted.lengths in
      let b = accepted.banks in
      record {
        row-h = part-row taps phase below s.h l.long-h 0 short b.rows-h;
        row-g = part-row taps phase below s.g l.long-g 1 short b.rows_g;
        row-k = part-row taps phase below s.k l.long-k 2 short b.rows-k;
        long-h = row-long s.h l.long-h ∙ sym k-long;
        long-g = row-long s.g l.long-g ∙ sym k-long;
        centred-h = part-centred taps phase below s.h l.long-h b.outside-h;
        centred-g = part-centred taps phase below s.g l.long-g b.outside-g;
      }

  -- a row's sums are those of the definition's row
  row-sums : (cs : List ℤ) (l : List Pair) (head : ℕ) → sums_of (length (row s.k)) (row cs) l head ≡ sums_of taps (row_of taps cs phase) l head
  row-sums cs l head = λ t. sums_of (k-long t) (part-is taps phase cs t) l head

  sums-are : (l : List Pair) (head : ℕ)
      → let of : List ℤ → Sums = λ cs. sums_of (length (row s.k)) (row cs) l head in
      (of s.h ∷ of s.g ∷ of s.k ∷ []) ≡ filtered s phase l head
  unfolding filtered
  sums-are l head = λ t. row-sums s.h l head t ∷ row-sums s.g l head t ∷ row-sums s.k l head t ∷ []

pub slice_bounds-rows-end : goal.slice_bounds-rows-end
slice_bounds-rows-end c =
    let r = rw (sym c.sheet.view_is) at c.requires in
    omega (arith, inside _ r.accepted c.args.phase r.bounds.1, (accepted _ r.accepted c.args.phase r.bounds.1).lengths.long-h)

pub slice_bounds-rows-end-2 : goal.slice_bounds-rows-end-2
slice_bounds-rows-end-2 c =
    let r = rw (sym c.sheet.view_is) at c.requires in
    omega (arith, inside _ r.accepted c.args.phase r.bounds.1, (accepted _ r.accepted c.args.phase r.bounds.1).lengths.long-g)

pub slice_bounds-rows-end-3 : goal.slice_bounds-rows-end-3
slice_bounds-rows-end-3 c =
    let r = rw (sym c.sheet.view_is) at c.requires in
    omega (arith, inside _ r.accepted c.args.phase r.bounds.1, (accepted _ r.accepted c.args.phase r.bounds.1).lengths.long-k)

pub invariant_of-rows : goal.invariant_of-rows
invariant_of-rows c =
    let r = rw (sym c.sheet.view_is) at c.requires in
    filterable _ r.accepted c.args.phase r.bounds.1

pub filter-requires : goal.filter-requires
filter-requires c =
    let r = rw (sym c.sheet.view_is) at c.requires in
    rw (k-long _ r.accepted c.args.phase r.bounds.1) r.bounds.0

pub returns : goal.returns
returns c =
    let r = rw (sym c.sheet.view_is) at c.requires in
    rw (sym c.sheet.view_is) (c.filter.ensures ∙ sums-are _ r.accepted c.args.phase r.bounds.1 c.args.rings.now.line c.args.self.now.head)
