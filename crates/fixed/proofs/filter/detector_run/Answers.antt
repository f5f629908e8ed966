-- `fixed::filter::detector_run` meets its contract: each tap adds both coefficients' parts (RowSums), and after the last both rows are taken.
-- The rows are as long as the line's part, so one count serves both.
use Rattle.std.proofs.Common.{◌≡◌, ℕ, ◌+◌, ◌<◌, ◌≤◌, length, ℤ, nat_abs, ap, ◌∙◌, arith, w64, to_z, of_z}
use Rattle.arith.proofs.Bits.{back}
use Rattle.fixed.specs.Raised.{lowered}
use Rattle.fixed.specs.Inside.{DetectedUpto}
use Rattle.fixed.proofs.Parts.{light-each, light-read}
use Rattle.fixed.proofs.RowSums.{added_none, added_more, added-upto, added-all, sums-wider, lowered-small}
use Rattle.fixed.proofs.filter.detector_run.Goals as goal

-- a number of the line, as it is handed on
handed : (u : ℕ) {z : ℤ} → u < 4294967296 → z ≡ lowered u → to_z w64 (of_z w64 z) ≡ lowered u
handed u h e = ap (λ (z : ℤ). to_z w64 (of_z w64 z)) e ∙ back w64 (lowered u) (omega (arith, lowered-small u h))

handed-small : (u : ℕ) {z : ℤ} → u < 4294967296 → z ≡ lowered u → nat_abs (to_z w64 (of_z w64 z)) ≤ 2147483648
handed-small u h e = rw (handed u h e) (lowered-small u h)

pub loop-n-init : goal.loop-n-init
loop-n-init c =
    let a = c.args in
    (added_none a.h.now a.i.now a.q.now a.before.h, added_none a.g.now a.i.now a.q.now a.before.g)

pub with_products-a-requires-clause-sums_upto : goal.with_products-a-requires-clause-sums_upto
with_products-a-requires-clause-sums_upto c =
    sums-wider (omega (arith, c.requires.row.0.short)) (added-upto c.loop-n.invariant.0 64 c.requires.beside.1.h)

pub with_products-a-requires-clause-c_bound : goal.with_products-a-requires-clause-c_bound
with_products-a-requires-clause-c_bound c =
    let n = c.loop-n.n in
    let h = c.loop-n-test.true in
    let beside = c.requires.beside.0 in (
      rw (light-read c.requires.row.0 n h) (light-each c.requires.row.0 n h),
      (handed-small _ (beside.small-i n h) c.lower-x.ensures, handed-small _ (beside.small-q n h) c.lower-y.ensures),
    )

pub with_products-b-requires-clause-sums_upto : goal.with_products-b-requires-clause-sums_upto
with_products-b-requires-clause-sums_upto c =
    sums-wider (omega (arith, c.requires.row.0.short)) (added-upto c.loop-n.invariant.1 64 c.requires.beside.1.g)

pub with_products-b-requires-clause-c_bound : goal.with_products-b-requires-clause-c_bound
with_products-b-requires-clause-c_bound c =
    let n = c.loop-n.n in
    let h = c.loop-n-test.true in
    let l : n < length c.args.g.now = omega (arith, c.requires.row.1.1) in
    let beside = c.requires.beside.0 in (
      rw (light-read c.requires.row.1.0 n l) (light-each c.requires.row.1.0 n l),
      (handed-small _ (beside.small-i n h) c.lower-x.ensures, handed-small _ (beside.small-q n h) c.lower-y.ensures),
    )

pub loop-n-preserved : goal.loop-n-preserved
loop-n-preserved c =
    let n = c.loop-n.n in
    let h = c.loop-n-test.true in
    let l : n < length c.args.g.now = omega (arith, c.requires.row.1.1) in
    let beside = c.requires.beside.0 in
    let small-i = beside.small-i n h in
    let small-q = beside.small-q n h in
    let x = handed _ small-i c.lower-x.ensures in
    let y = handed _ small-q c.lower-y.ensures in
    let in-h = simp (light-read c.requires.row.0 n h, x, y) at c.with_products-a.ensures in
    let in_g = simp (light-read c.requires.row.1.0 n l, x, y) at c.with_products-b.ensures in
    rw (in-h, in_g) (
      added_more (light-each c.requires.row.0 n h) small-i small-q c.loop-n.invariant.0,
      added_more (light-each c.requires.row.1.0 n l) small-i small-q c.loop-n.invariant.1,
    )

pub returns : goal.returns
returns c =
    let a = c.args in
    let l = c.loop-n in
    let e : l.n ≡ length a.h.now = omega arith in
    record {
      of-h = added-all e l.invariant.0;
      of-g = added-all (omega (arith, c.requires.row.1.1)) l.invariant.1;
      few = λ m u.
          let few : DetectedUpto (m + l.n) (record { h = l.a; g = l.b }) = record { h = added-upto l.invariant.0 m u.h; g = added-upto l.invariant.1 m u.g } in
          rw (ap (λ (k : ℕ). m + k) e) at few;
    }
