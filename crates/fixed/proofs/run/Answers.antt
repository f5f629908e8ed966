-- `fixed::run` meets its contract: a block without a fault has an accepted sheet, a state that it can go on from, and room for the pairs that it takes.
-- What it leaves is the state after these pairs, and their symbols.
use Rattle.std.proofs.Common.{◌≡◌, ℕ, ◌+◌, ◌*◌, ◌/◌, ◌≤◌, List, ◌++◌, length, take, drop, true, ℤ, sym, ap, ◌∙◌, subst, arith, length-take-le}
use Rattle.params.specs.declared.Params.{Params}
use Rattle.params.specs.Refusal.{nothing}
use Rattle.params.specs.Judge.{Sheet}
use Rattle.symbol.specs.declared.Symbol.{Symbol}
use Rattle.state.specs.declared.Pair.{Pair}
use Rattle.state.specs.declared.Frontend.{Frontend}
use Rattle.state.specs.Check.{pairs_taken, good_state}
use Rattle.state.proofs.Answers.{Faultless, faultless}
use Rattle.fixed.specs.declared.sample.Rings.{Rings}
use Rattle.fixed.specs.declared.sample.Running.{Running}
use Rattle.fixed.specs.Sample.{after, emitted}
use Rattle.fixed.specs.Block.{Block, pairs_of, flattened, accepted}
use Rattle.fixed.specs.Inside.{running_of, rings_of, frontend_of, Writes}
use Rattle.fixed.proofs.Turns.{pairs-cut}
use Rattle.fixed.proofs.run.Goals as goal

-- ---- the pairs that are taken

module _ (values : List ℤ) (places : ℕ) {n : ℕ} (taken : n ≡ pairs_taken (length values) places) where
  -- there are as many, and 20 places for each
  there : 2 * n ≤ length values
  unfolding pairs_taken
  there = omega (arith, taken)

  roomy : 20 * n ≤ places
  unfolding pairs_taken
  roomy = omega (arith, taken)

  lent : length (take (2 * n) values) ≡ 2 * n
  lent = length-take-le (2 * n) values there

-- ---- the state, taken apart and put together

module _ (s : Sheet) (f : Frontend) (values out : List ℤ) (ok : Faultless s f (length values) (length out)) {n : ℕ}
    (taken : n ≡ pairs_taken (length values) (length out)) {x : Running} {r : Rings} (numbers : x ≡ running_of f) (rings : r ≡ rings_of f) where
  begins : frontend_of s.params x r ≡ f
  begins = λ t. frontend_of (ok.holds t) (numbers t) (rings t)

  good : good_state s.params (frontend_of s.params x r) ≡ true
  good = ap (good_state s.params) begins ∙ ok.good

  room : (20 * (length (take (2 * n) values) / 2) ≤ length out) × (x.samples + length (take (2 * n) values) / 2 ≤ 9223372036854775807)
  room =
      let long = lent values (length out) taken in
      let samples = ap (λ (x : Running). x.samples) numbers in
      (omega (arith, long, roomy values (length out) taken), omega (arith, long, samples, taken, ok.sizes.few))

  answer : {y : Running} {z : Rings} {new : Frontend} {count clips : ℕ} {o : List ℤ}
      → frontend_of s.params y z ≡ after s (frontend_of s.params x r) (pairs_of (take (2 * n) values))
      → Writes (emitted s (frontend_of s.params x r) (pairs_of (take (2 * n) values))) out o count clips → new ≡ frontend_of f.params y z
      → ◌≡◌ {A = Block} (record { refused = nothing; state = new; taken = n; count = count; clips = clips; output = o }) (accepted s f values out)
  unfolding accepted
  answer {y} {z} {count = count} {clips = clips} {o = o} state writes put =
      let xs : List Pair = take n (pairs_of values) in
      let cut = pairs-cut values n in
      let ends = put ∙ ap (λ (p : Params). frontend_of p y z) (sym ok.holds) ∙ state ∙ (λ t. after s (begins t) (cut t)) in
      let w : Writes (emitted s f xs) out o count clips =
      subst (λ (ys : List Symbol). Writes ys out o count clips) (λ t. emitted s (begins t) (cut t)) writes in
      rw (sym taken)
      (λ t. record {
        refused = nothing;
        state = ends t;
        taken = n;
        count = w.counted t;
        clips = w.clipped t;
        output = (w.written ∙ ap (λ (m : ℕ). flattened (emitted s f xs) ++ drop (20 * m) out) w.counted) t;
      })

pub overflow_mul-taken : goal.overflow_mul-taken
overflow_mul-taken c =
    let a = c.args in
    let ok = faultless a.sheet.now a.f.now (length a.values.now) (length a.out.now) c.requires in
    record { fits = omega (arith, ok.sizes.few, c.pairs_taken-taken.ensures) }

pub slice_bounds-run-end : goal.slice_bounds-run-end
slice_bounds-run-end c = let a = c.args in sym (lent a.values.now (length a.out.now) c.pairs_taken-taken.ensures)

pub run-written-requires-clause-accepted : goal.run-written-requires-clause-accepted
run-written-requires-clause-accepted c =
    let a = c.args in
    rw c.own_sheet-sheet.ensures (faultless a.sheet.now a.f.now (length a.values.now) (length a.out.now) c.requires).judged-so

pub run-written-requires-clause-good : goal.run-written-requires-clause-good
run-written-requires-clause-good c =
    let a = c.args in
    let ok = faultless a.sheet.now a.f.now (length a.values.now) (length a.out.now) c.requires in
    rw c.own_sheet-sheet.ensures (good a.sheet.now a.f.now a.values.now a.out.now ok c.pairs_taken-taken.ensures c.of-running.ensures c.of-rings.ensures)

pub run-written-requires-clause-room : goal.run-written-requires-clause-room
run-written-requires-clause-room c =
    let a = c.args in
    let ok = faultless a.sheet.now a.f.now (length a.values.now) (length a.out.now) c.requires in
    room a.sheet.now a.f.now a.values.now a.out.now ok c.pairs_taken-taken.ensures c.of-running.ensures c.of-rings.ensures

pub returns : goal.returns
returns c =
    let a = c.args in
    let ok = faultless a.sheet.now a.f.now (length a.values.now) (length a.out.now) c.requires in
    let ran = rw c.own_sheet-sheet.ensures at c.run-written.ensures in
    answer a.sheet.now a.f.now a.values.now a.out.now ok c.pairs_taken-taken.ensures c.of-running.ensures c.of-rings.ensures ran.state ran.written c.put.ensures
