-- The theorem on lists of blocks and commits. A list is one run over the samples that its blocks took (Schedule) and keeps the invariant (Kept), which says
-- of each symbol where it lies and what its period and gain are: what the errors of the symbols that lie at least the delay before it make of the first ones,
-- under the sheets in force where they are applied. Of a list that keeps to its sheets the commits say which these are (Forced). So two lists whose first
-- samples and commits agree have the same symbols there, and the same periods, and with them the same places, as many symbols further as the delay.
use Prim.Native.Nat.{ℕ, zero, suc, ◌+◌, ◌-◌, ◌*◌, ◌/◌, ◌≤◌, ◌<◌}
use mathlib.Core.Path.{◌≡◌, refl, sym, ap, subst, ◌∙◌}
use mathlib.Core.Bool.{Bool, true, false, cond}
use mathlib.Core.List.{List, [], ◌∷◌, ◌++◌, append_assoc}
use native.Mathlib.Omega.{arith}
use native.Mathlib.Decide.{dec_lt}
use lib.Dec.{eqb, le→leb}
use lib.ListN.{length, get_or, take, drop, length-take, length-append, length-drop, take-append-drop}
use lib.Seq.{take-take, take-suc, take-append-le, take-length, length-take-le, get_or-take, get_or_at, get_or-append-add, ext_get_or}
use lib.IntN.{ℤ, pos, nat_abs}
use lib.Signed.{◌≤ℤ◌}
use Rattle.params.specs.declared.Params.{Params}
use Rattle.params.specs.Refusal.{Refusal, nothing}
use Rattle.params.specs.Judge.{Sheet}
use Rattle.params.proofs.Accepted.{Accepted, judged-none, no-faults}
use Rattle.fields.specs.Fields.{no_fields}
use Rattle.state.specs.declared.Pair.{Pair}
use Rattle.state.specs.declared.Frontend.{Frontend}
use Rattle.symbol.specs.declared.Output.{Output}
use Rattle.symbol.specs.declared.Symbol.{Symbol}
use Rattle.state.specs.Start.{no_pair, fresh, start_of}
use Rattle.retune.specs.Retune.{retuned}
use Rattle.fixed.specs.Filter.{sum_to}
use Rattle.symbol.specs.Places.{places_of}
use Rattle.symbol.specs.Make.{symbol_from}
use Rattle.fixed.specs.Sample.{symbol_of, joined, falls, next, made_by}
use Rattle.fixed.specs.Block.{flattened, clips_of}
use Rattle.timing.specs.Lists.{Call, block, commit, state_by, taken_by, commits, KeepTo}
use Rattle.timing.specs.Lists.{start_state, samples_of, end_state, places_written, symbol_count, clip_count, commits_of, KeepsToItsSheets}
use Rattle.timing.specs.Timing.{place_at, sample_at, phase_at, gain_at, period_at, periods_before, Whole, Place, Apart, Rest, AgreeUpTo, up_to, Delayed, SameRun}
use Rattle.timing.specs.Timing.{SameTiming, TimingHolds, AlikeAhead, Plain, WithoutCommits}
use Rattle.fixed.proofs.Runs.{length-flattened, place-flattened}
use Rattle.registers.proofs.Loops.{Loop}
use Rattle.state.proofs.Going.{time, Going}
use Rattle.timing.proofs.Errors.{total, total-append, total-suc, errors, errors-take, moved_by, moved_by-take, fresh_loop}
use Rattle.timing.proofs.Invariant.{fields_of, fields-append, length_fields, loop_at, Inv, inv-going, Placed, each_at, fresh-inv}
use Rattle.timing.proofs.Calls.{made_in, calls-written, calls-counted, calls-clipped, calls-samples}
use Rattle.timing.proofs.Schedule.{given, end_by, run_by, run-append, end-samples, next-counts, Along, list-run, list-end}
use Rattle.timing.proofs.Kept.{fields_at, Leaves, list-leaves}
use Rattle.timing.proofs.Forced.{in_force, force-alike, keeps-along, last_fields, list-fields}

abbrev no_output : Output
no_output = record { i = pos 0; q = pos 0 }

abbrev no_symbol : Symbol
no_symbol = record {
  sample = 0;
  phase = 0;
  y = no_output;
  dy = no_output;
  yk = no_output;
  gain = 0;
  period = 0;
  z = no_output;
  dz = no_output;
  zk = no_output;
  q = no_output;
  e = pos 0;
  err = pos 0;
  clips = 0;
}

-- an order of naturals, as one of ℤ
nat-order : {m n : ℕ} → m ≤ n → pos m ≤ℤ pos n
nat-order {m} {n} h = record { le = le→leb m n h }

-- symbol k of a run
abbrev at : List Symbol → ℕ → Symbol
at ys k = get_or ys k no_symbol

take_less : {A : Type 0} (m n : ℕ) (a b : List A) → m ≤ n → take n a ≡ take n b → take m a ≡ take m b
take_less m n a b h e = sym (take-take m n a h) ∙ ap (take m) e ∙ take-take m n b h

-- ---- the places of symbols

module _ (Y : List Symbol) where
  place_at_lem : (k j : ℕ) → k < length Y → j < 20 → place_at (flattened Y) k j ≡ get_or (places_of (at Y k)) j (pos 0)
  place_at_lem k j h l = place-flattened Y k j no_symbol h l

  sample-at : (k : ℕ) → k < length Y → sample_at (flattened Y) k ≡ pos (at Y k).sample
  unfolding places_of
  sample-at k h = place_at_lem k 0 h (omega arith)

  phase-at : (k : ℕ) → k < length Y → phase_at (flattened Y) k ≡ pos (at Y k).phase
  unfolding places_of
  phase-at k h = place_at_lem k 1 h (omega arith)

  gain-at : (k : ℕ) → k < length Y → gain_at (flattened Y) k ≡ pos (at Y k).gain
  unfolding places_of
  gain-at k h = place_at_lem k 8 h (omega arith)

  period-at : (k : ℕ) → k < length Y → period_at (flattened Y) k ≡ pos (at Y k).period
  unfolding places_of
  period-at k h = place_at_lem k 9 h (omega arith)

  periods-sum : (k : ℕ) → k ≤ length Y → periods_before (flattened Y) k ≡ pos (total (take k Y))
  unfolding sum_to total
  periods-sum zero h = refl
  periods-sum (suc k) h =
      rw (periods-sum k (omega arith), period-at k (omega arith)) (ap pos (sym (total-suc Y k no_symbol (omega arith))))

-- ---- runs under a schedule, up to a sample

-- symbols that fall on sample n or a later one
abbrev From : ℕ → List Symbol → Type 0
From n [] = Unit {0}
From n (y ∷ ys) = (n ≤ y.sample) × From n ys

from-both : (n : ℕ) (a b : List Symbol) → From n a → From n b → From n (a ++ b)
from-both n [] b l r = r
from-both n (y ∷ a) b l r = (l.0, from-both n a b l.1 r)

from-later : (n k : ℕ) (ys : List Symbol) → n ≤ k → From k ys → From n ys
from-later n k [] h l = tt
from-later n k (y ∷ ys) h l = (omega (arith, l.0), from-later n k ys h l.1)

from_at : (n : ℕ) (ys : List Symbol) → From n ys → (k : ℕ) → k < length ys → n ≤ (at ys k).sample
from_at n [] l k h = absurd (omega arith)
from_at n (y ∷ ys) l zero h = l.0
from_at n (y ∷ ys) l (suc k) h = from_at n ys l.1 k (omega arith)

-- the symbol of a sample falls on it
made-from : (s : Sheet) (f : Frontend) (x : Pair) → From f.samples (made_by s f x)
unfolding made_by symbol_of symbol_from joined
made-from s f x = go (falls f)
  where
    go : (b : Bool) → From f.samples (cond b (symbol_of s (joined s f x) ∷ []) [])
    go true = (omega arith, tt)
    go false = tt

run-from : (Q : ℕ → Sheet) (f : Frontend) (xs : List Pair) → From f.samples (run_by Q f xs)
unfolding run_by
run-from Q f [] = tt
run-from Q f (x ∷ xs) =
    let s : Sheet = Q f.samples in
    from-both f.samples (made_by s f x) (run_by Q (next s f x) xs) (made-from s f x)
    (from-later f.samples (next s f x).samples (run_by Q (next s f x) xs) (omega (arith, next-counts s f x)) (run-from Q (next s f x) xs))

-- schedules that are the same at these samples make the same symbols
run-alike : (Q R : ℕ → Sheet) (f : Frontend) (xs : List Pair) → ((n : ℕ) → n < f.samples + length xs → Q n ≡ R n) → run_by Q f xs ≡ run_by R f xs
unfolding run_by
run-alike Q R f [] e = refl
run-alike Q R f (x ∷ xs) e =
    let s : Sheet = Q f.samples in
    ap (λ (l : List Symbol). made_by s f x ++ l) (run-alike Q R (next s f x) xs (λ n h. e n (omega (arith, next-counts s f x))))
    ∙ ap (λ (t : Sheet). made_by t f x ++ run_by R (next t f x) xs) (e f.samples (omega arith))

-- a symbol is made by the samples up to its own
module _ (Q : ℕ → Sheet) (f : Frontend) (none : f.samples ≡ 0) where
  split : (xs : List Pair) (n : ℕ) → run_by Q f xs ≡ run_by Q f (take n xs) ++ run_by Q (end_by Q f (take n xs)) (drop n xs)
  split xs n = ap (run_by Q f) (sym (take-append-drop n xs)) ∙ run-append Q f (take n xs) (drop n xs)

  reach : (xs : List Pair) (i n : ℕ) → i < length (run_by Q f xs) → n ≡ (at (run_by Q f xs) i).sample → n < length xs → i < length (run_by Q f (take (suc n) xs))
  reach xs i n h e l = go (dec_lt i (length A))
    where
      A : List Symbol
      A = run_by Q f (take (suc n) xs)

      g : Frontend
      g = end_by Q f (take (suc n) xs)

      B : List Symbol
      B = run_by Q g (drop (suc n) xs)

      go : Dec (i < length A) → i < length A
      go (yes q) = q
      go (no q) =
          let long : length (run_by Q f xs) ≡ length A + length B = ap length (split xs (suc n)) ∙ length-append A B in
          let k : i ≡ length A + (i - length A) = omega arith in
          let same : at (run_by Q f xs) i ≡ at B (i - length A) =
          ap (λ (l : List Symbol). at l i) (split xs (suc n)) ∙ ap (at (A ++ B)) k ∙ get_or-append-add A B (i - length A) no_symbol in
          let later = from_at g.samples B (run-from Q g (drop (suc n) xs)) (i - length A) (omega arith) in
          absurd (omega (arith, end-samples Q f (take (suc n) xs), length-take-le (suc n) xs l, ap (λ (y : Symbol). y.sample) same))

  agree-take : (n : ℕ) (xs ys : List Pair) → AgreeUpTo n xs ys → take (suc n) xs ≡ take (suc n) ys
  agree-take n xs ys g =
      ext_get_or no_pair (take (suc n) xs) (take (suc n) ys) (length-take-le (suc n) xs g.here ∙ sym (length-take-le (suc n) ys g.there))
      (λ m h.
      let b : m < suc n = omega (arith, length-take-le (suc n) xs g.here) in
      rw (get_or-take (suc n) xs m no_pair b, get_or-take (suc n) ys m no_pair b) (g.same m (omega arith)))

  same-front : (R : ℕ → Sheet) (xs ys : List Pair) (i n : ℕ) → i < length (run_by Q f xs) → n ≡ (at (run_by Q f xs) i).sample → AgreeUpTo n xs ys
      → ((m : ℕ) → m ≤ n → Q m ≡ R m) → take (suc i) (run_by Q f xs) ≡ take (suc i) (run_by R f ys)
  same-front R xs ys i n h e g alike =
      let q = reach xs i n h e g.here in
      let F : List Symbol = run_by Q f (take (suc n) xs) in
      let G : List Symbol = run_by R f (take (suc n) ys) in
      let same : F ≡ G = run-alike Q R f (take (suc n) xs) (λ m l. alike m (omega (arith, length-take-le (suc n) xs g.here)))
      ∙ ap (run_by R f) (agree-take n xs ys g) in
      let back : run_by R f ys ≡ G ++ run_by R (end_by R f (take (suc n) ys)) (drop (suc n) ys) =
      ap (run_by R f) (sym (take-append-drop (suc n) ys)) ∙ run-append R f (take (suc n) ys) (drop (suc n) ys) in
      ap (take (suc i)) (split xs (suc n)) ∙ take-append-le (suc i) F _ q ∙ ap (take (suc i)) same
      ∙ sym (take-append-le (suc i) G _ (rw same at q)) ∙ ap (take (suc i)) (sym back)

-- ---- symbols ahead

total-rises : (Y : List Symbol) (j k : ℕ) → j ≤ k → total (take j Y) ≤ total (take k Y)
total-rises Y j k h =
    let e : take k Y ≡ take j Y ++ drop j (take k Y) =
    sym (take-append-drop j (take k Y)) ∙ ap (λ (l : List Symbol). l ++ drop j (take k Y)) (take-take j k Y h) in
    rw e (omega (arith, total-append (take j Y) (drop j (take k Y))))

-- two lists of symbols, each placed under its own fields, of which the first are the same
module _ (p₀ : Params) (P R : ℕ → Params) (Y Z : List Symbol) (least : 1 ≤ p₀.delay)
    (in-y : (k : ℕ) → k < length Y → Placed p₀ P (take k Y) (at Y k)) (in-z : (k : ℕ) → k < length Z → Placed p₀ R (take k Z) (at Z k))
    (i : ℕ) (front : take (suc i) Y ≡ take (suc i) Z) where
  rising : (j k : ℕ) → j ≤ k → k < length Y → (at Y j).sample ≤ (at Y k).sample
  rising j k h l =
      let a = in-y j (omega arith) in
      let b = in-y k l in
      omega (arith, total-rises Y j k h)

  -- the place of a symbol, by the periods before it
  same_place : (j : ℕ) → j < length Y → j < length Z → total (take j Y) ≡ total (take j Z)
      → ((at Y j).sample ≡ (at Z j).sample) × ((at Y j).phase ≡ (at Z j).phase)
  same_place j y z t =
      let u = in-y j y in
      let v = in-z j z in
      let e : (at Y j).sample * 64 + (at Y j).phase ≡ (at Z j).sample * 64 + (at Z j).phase =
      u.place ∙ ap (λ (n : ℕ). n / 262144) t ∙ sym v.place in
      omega arith

  -- the loop at symbol j uses only the errors of symbols that lie at least the delay before it
  same-loop : (j : ℕ) → j ≤ i + p₀.delay → j < length Y → j < length Z → fields_of p₀ P (take (suc j) Y) ≡ fields_of p₀ R (take (suc j) Z)
      → loop_at p₀ P (fields_of p₀ P (take (suc j) Y)) (take j Y) ≡ loop_at p₀ R (fields_of p₀ R (take (suc j) Z)) (take j Z)
  same-loop j near y z e =
      let d : ℕ = p₀.delay in
      let m : ℕ = suc j - d in
      let l₀ : Loop = fresh_loop p₀ in
      let fs : List Params = drop d (fields_of p₀ P (take (suc j) Y)) in
      let many : length fs ≤ m =
      omega (arith, length-drop d (fields_of p₀ P (take (suc j) Y)), length_fields p₀ P (take (suc j) Y), length-take-le (suc j) Y y) in
      let used : (W : List Symbol) → take m (errors (take j W)) ≡ errors (take m W) =
      λ W. ap (take m) (errors-take j W) ∙ take-take m j (errors W) (omega arith) ∙ sym (errors-take m W) in
      sym (moved_by-take l₀ fs (errors (take j Y)) m many)
      ∙ ap (moved_by l₀ fs) (used Y ∙ ap errors (take_less m (suc i) Y Z (omega arith) front) ∙ sym (used Z))
      ∙ moved_by-take l₀ fs (errors (take j Z)) m many
      ∙ ap (λ (ps : List Params). moved_by l₀ (drop d ps) (errors (take j Z))) e

  -- up to a symbol k that both have, and up to whose sample the fields are the same
  module _ (k : ℕ) (near : k ≤ i + p₀.delay) (has-y : k < length Y) (has-z : k < length Z) (alike : (n : ℕ) → n ≤ (at Y k).sample → P n ≡ R n) where
    record Alike (j : ℕ) : Type 0 where
      totals : total (take j Y) ≡ total (take j Z)
      fields : fields_of p₀ P (take j Y) ≡ fields_of p₀ R (take j Z)

    next-fields : (j : ℕ) → j ≤ k → Alike j → fields_of p₀ P (take (suc j) Y) ≡ fields_of p₀ R (take (suc j) Z)
    unfolding fields_of
    next-fields j h a =
        let sample = (same_place j (omega arith) (omega arith) a.totals).0 in
        let same : P (at Y j).sample ≡ R (at Z j).sample = alike (at Y j).sample (rising j k h has-y) ∙ ap R sample in
        rw (
          take-suc Y j no_symbol (omega arith),
          take-suc Z j no_symbol (omega arith),
          fields-append p₀ P (take j Y) (at Y j ∷ []),
          fields-append p₀ R (take j Z) (at Z j ∷ []),
        )
        (λ t. a.fields t ++ (same t ∷ []))

    next-loop : (j : ℕ) → j ≤ k → Alike j
        → loop_at p₀ P (fields_of p₀ P (take j Y ++ (at Y j ∷ []))) (take j Y) ≡ loop_at p₀ R (fields_of p₀ R (take j Z ++ (at Z j ∷ []))) (take j Z)
    next-loop j h a =
        rw (take-suc Y j no_symbol (omega arith), take-suc Z j no_symbol (omega arith)) at
        (same-loop j (omega arith) (omega arith) (omega arith) (next-fields j h a))

    same-period : (j : ℕ) → j ≤ k → Alike j → (at Y j).period ≡ (at Z j).period
    same-period j h a =
        (in-y j (omega arith)).period ∙ ap (λ (l : Loop). l.period) (next-loop j h a) ∙ sym (in-z j (omega arith)).period

    same-gain : (j : ℕ) → j ≤ k → Alike j → (at Y j).gain ≡ (at Z j).gain
    same-gain j h a =
        (in-y j (omega arith)).gain ∙ ap (λ (l : Loop). l.gain / 256) (next-loop j h a) ∙ sym (in-z j (omega arith)).gain

    all_alike : (j : ℕ) → j ≤ k → Alike j
    unfolding fields_of
    all_alike zero h = record { totals = refl; fields = refl }
    all_alike (suc j) h =
        let a = all_alike j (omega arith) in
        let period = same-period j (omega arith) a in
        record {
          totals = omega (arith, total-suc Y j no_symbol (omega arith), total-suc Z j no_symbol (omega arith), a.totals);
          fields = next-fields j (omega arith) a;
        }

-- ---- the theorem

-- a schedule that has just these sheets
self : (before ss : List Sheet) (d : Sheet) → Along (λ n. get_or (before ++ ss) n d) (length before) ss
self before [] d = tt
self before (s ∷ ss) d =
    let e : length (before ++ (s ∷ [])) ≡ suc (length before) = omega (arith, length-append before (s ∷ [])) in
    let rest = self (before ++ (s ∷ [])) ss d in
    (get_or_at before s ss d (length before) refl, rw (e, append_assoc before (s ∷ []) ss) at rest)

module _ (s : Sheet) (ok : (start_of s).refused ≡ nothing) where
  pub a : Accepted s
  unfolding start_of
  a = no-faults s (judged-none s ok)

  begins : start_state s ≡ fresh s.params
  unfolding start_of
  begins = ap (λ (r : Refusal). fresh (cond (eqb r.number 0) s.params no_fields)) ok

  pub none_yet : (start_state s).samples ≡ 0
  unfolding fresh
  none_yet = ap (λ (f : Frontend). f.samples) begins

  -- the symbols of a list
  made : List Call → List Symbol
  made cs = made_in (start_state s) cs

  wrote : (cs : List Call) → places_written s cs ≡ flattened (made cs)
  unfolding made
  wrote cs = calls-written (start_state s) cs

  counts : (cs : List Call) → symbol_count s cs ≡ length (made cs)
  unfolding made
  counts cs = calls-counted (start_state s) cs

  clips : (cs : List Call) → clip_count s cs ≡ clips_of (made cs)
  unfolding made
  clips cs = calls-clipped (start_state s) cs

  -- ---- a list under a schedule that has the sheets of its samples

  module _ (Q : ℕ → Sheet) (cs : List Call) (along : Along Q 0 (given (start_state s) cs)) where
    leaves : Leaves s.params Q (end_state s cs) [] (made cs)
    unfolding fresh made
    leaves =
        let first : Inv s.params (fields_at s.params Q) (start_state s).params (start_state s) [] =
        subst (λ (f : Frontend). Inv s.params (fields_at s.params Q) f.params f []) (sym begins)
        (fresh-inv s.params (fields_at s.params Q) s a refl) in
        list-leaves s.params Q (start_state s) [] cs (subst (λ (n : ℕ). Along Q n (given (start_state s) cs)) (sym none_yet) along) first

    placed : (k : ℕ) → k < length (made cs) → Placed s.params (fields_at s.params Q) (take k (made cs)) (at (made cs) k)
    placed k h = each_at s.params (fields_at s.params Q) [] (made cs) leaves.placed k no_symbol h

  -- ---- one list

  module _ (cs : List Call) where
    own : ℕ → Sheet
    own n = get_or (given (start_state s) cs) n s

    along-own : Along own 0 (given (start_state s) cs)
    unfolding own
    along-own = self [] (given (start_state s) cs) s

    ends-inv : Inv s.params (fields_at s.params own) (end_state s cs).params (end_state s cs) (made cs)
    ends-inv = (leaves own cs along-own).inv

    pub ends-going : Going (end_state s cs).params (end_state s cs)
    ends-going = inv-going s.params (fields_at s.params own) (end_state s cs).params (end_state s cs) (made cs) ends-inv

    at_its_place : (k : ℕ) → k < length (made cs) → Placed s.params (fields_at s.params own) (take k (made cs)) (at (made cs) k)
    at_its_place = placed own cs along-own

    whole : Whole s cs
    whole = rw (wrote cs, counts cs) (length-flattened (made cs))

    place : (k : ℕ) → k < symbol_count s cs → Place s cs k
    place k h =
        let l : k < length (made cs) = rw (counts cs) at h in
        rw (wrote cs, sample-at (made cs) k l, phase-at (made cs) k l, periods-sum (made cs) k (omega arith)) (ap pos (at_its_place k l).place)

    near : (k : ℕ) → suc k < length (made cs)
        → ((at (made cs) k).sample + 1 ≤ (at (made cs) (suc k)).sample) × ((at (made cs) (suc k)).sample ≤ (at (made cs) k).sample + 4)
    near k h =
        let x = at_its_place k (omega arith) in
        let y = at_its_place (suc k) h in
        let t = total-suc (made cs) k no_symbol (omega arith) in
        omega arith

    apart : (k : ℕ) → k + 1 < symbol_count s cs → Apart s cs k
    apart k h =
        let l : k + 1 < length (made cs) = rw (counts cs) at h in
        let e : k + 1 ≡ suc k = omega arith in
        let n = near k (omega arith) in
        rw (wrote cs, sample-at (made cs) k (omega arith), sample-at (made cs) (k + 1) l, e) (nat-order (omega arith), nat-order (omega arith))

    rest : Rest s cs
    rest =
        let v = ends-inv in
        let sum : total (made cs) ≡ length (samples_of s cs) * 16777216 + time (end_state s cs) =
        omega (arith, calls-samples (start_state s) cs, none_yet, v.sum) in
        rw (wrote cs, counts cs, periods-sum (made cs) (length (made cs)) (omega arith), take-length (made cs), v.whole)
        (ap pos sum, nat-order (omega arith), nat-order (omega arith))

  -- ---- a list that keeps to its sheets

  -- the sheet at a sample, as the commits say
  scheduled : List Call → ℕ → Sheet
  scheduled cs n = in_force s (commits_of s cs) n

  module _ (cs : List Call) (keeps : KeepsToItsSheets s cs) where
    along-scheduled : Along (scheduled cs) (start_state s).samples (given (start_state s) cs)
    unfolding scheduled
    along-scheduled =
        keeps-along (scheduled cs) s (start_state s) cs keeps
        (λ n h. ap (λ (m : ℕ). in_force s (commits m (start_state s) cs) n) (sym none_yet))

    made-is : made cs ≡ run_by (scheduled cs) (start_state s) (samples_of s cs)
    unfolding made
    made-is = list-run (scheduled cs) (start_state s) cs along-scheduled

    at-scheduled : (k : ℕ) → k < length (made cs) → Placed s.params (fields_at s.params (scheduled cs)) (take k (made cs)) (at (made cs) k)
    at-scheduled = placed (scheduled cs) cs (subst (λ (n : ℕ). Along (scheduled cs) n (given (start_state s) cs)) none_yet along-scheduled)

    ends : end_state s cs ≡ retuned (last_fields (start_state s).params (commits_of s cs)) (end_by (scheduled cs) (start_state s) (samples_of s cs))
    ends =
        list-end (scheduled cs) (start_state s) cs along-scheduled
        ∙ ap (λ (p : Params). retuned p (end_by (scheduled cs) (start_state s) (samples_of s cs))) (list-fields 0 (start_state s) cs)

  -- ---- two lists

  module _ (cs ds : List Call) (kc : KeepsToItsSheets s cs) (kd : KeepsToItsSheets s ds) where
    same-sheet : (m n : ℕ) → up_to m (commits_of s cs) ≡ up_to m (commits_of s ds) → n ≤ m → scheduled cs n ≡ scheduled ds n
    unfolding scheduled
    same-sheet m n e h = force-alike s (commits_of s cs) (commits_of s ds) m n e h

    front : (i n : ℕ) → i < length (made cs) → n ≡ (at (made cs) i).sample → AgreeUpTo n (samples_of s cs) (samples_of s ds)
        → up_to n (commits_of s cs) ≡ up_to n (commits_of s ds) → take (suc i) (made cs) ≡ take (suc i) (made ds)
    front i n h e g u =
        rw (made-is cs kc, made-is ds kd)
        (same-front (scheduled cs) (start_state s) none_yet (scheduled ds) (samples_of s cs) (samples_of s ds) i n
        (rw (made-is cs kc) at h) (rw (made-is cs kc) at e) g
        (λ m l. same-sheet n m u l))

    delayed : (i n : ℕ) → i < symbol_count s cs → sample_at (places_written s cs) i ≡ pos n → AgreeUpTo n (samples_of s cs) (samples_of s ds)
        → up_to n (commits_of s cs) ≡ up_to n (commits_of s ds) → Delayed s cs ds i
    delayed i n h e g u =
        let Y : List Symbol = made cs in
        let Z : List Symbol = made ds in
        let l : i < length Y = rw (counts cs) at h in
        let on : (k m : ℕ) → k < length Y → sample_at (places_written s cs) k ≡ pos m → m ≡ (at Y k).sample =
        λ k m b q. ap nat_abs (sym q ∙ ap (λ (w : List ℤ). sample_at w k) (wrote cs) ∙ sample-at Y k b) in
        let fr : take (suc i) Y ≡ take (suc i) Z = front i n l (on i n l e) g u in
        let has : i < length Z = omega (arith, length-take (suc i) Z, length-take-le (suc i) Y l, ap length fr) in
        let P : ℕ → Params = fields_at s.params (scheduled cs) in
        let R : ℕ → Params = fields_at s.params (scheduled ds) in
        record {
          has = rw (counts ds) has;
          same = λ k b j q.
              let same : at Y k ≡ at Z k = sym (get_or-take (suc i) Y k no_symbol (omega arith)) ∙ ap (λ (w : List Symbol). at w k) fr
              ∙ get_or-take (suc i) Z k no_symbol (omega arith) in
              rw (wrote cs, wrote ds, place_at_lem Y k j (omega arith) q, place_at_lem Z k j (omega arith) q, same);
          ahead = λ k m b hy hz q c.
              let x : k < length Y = rw (counts cs) at hy in
              let z : k < length Z = rw (counts ds) at hz in
              let least : 1 ≤ s.params.delay = a.fields.delay-least in
              let alike : (w : ℕ) → w ≤ (at Y k).sample → P w ≡ R w =
              λ w v. ap (λ (t : Sheet). t.params) (same-sheet m w c (omega (arith, on k m x q))) in
              let all = all_alike s.params P R Y Z least (at-scheduled cs kc) (at-scheduled ds kd) i fr k b x z alike k (omega arith) in
              let both = same_place s.params P R Y Z least (at-scheduled cs kc) (at-scheduled ds kd) i fr k x z all.totals in
              let period = same-period s.params P R Y Z least (at-scheduled cs kc) (at-scheduled ds kd) i fr k b x z alike k (omega arith) all in
              let gain = same-gain s.params P R Y Z least (at-scheduled cs kc) (at-scheduled ds kd) i fr k b x z alike k (omega arith) all in
              record {
                sample = rw (wrote cs, wrote ds, sample-at Y k x, sample-at Z k z, both.0);
                phase = rw (wrote cs, wrote ds, phase-at Y k x, phase-at Z k z, both.1);
                period = rw (wrote cs, wrote ds, period-at Y k x, period-at Z k z, period);
                gain = rw (wrote cs, wrote ds, gain-at Y k x, gain-at Z k z, gain);
              };
        }

    alike-ahead : commits_of s cs ≡ commits_of s ds → (i n k : ℕ) → i < symbol_count s cs → sample_at (places_written s cs) i ≡ pos n
        → AgreeUpTo n (samples_of s cs) (samples_of s ds) → k ≤ i + s.params.delay → k < symbol_count s cs → k < symbol_count s ds
        → SameTiming (places_written s cs) (places_written s ds) k
    alike-ahead c i n k h e g b hy hz =
        let x : k < length (made cs) = rw (counts cs) at hy in
        let m : ℕ = (at (made cs) k).sample in
        let q : sample_at (places_written s cs) k ≡ pos m = ap (λ (w : List ℤ). sample_at w k) (wrote cs) ∙ sample-at (made cs) k x in
        (delayed i n h e g (ap (up_to n) c)).ahead k m b hy hz q (ap (up_to m) c)

    cuts : samples_of s cs ≡ samples_of s ds → commits_of s cs ≡ commits_of s ds → SameRun s cs ds
    unfolding scheduled
    cuts e c =
        let same : made cs ≡ made ds =
        made-is cs kc ∙ (λ t. run_by (λ n. in_force s (c t) n) (start_state s) (e t)) ∙ sym (made-is ds kd) in
        record {
          count = counts cs ∙ ap length same ∙ sym (counts ds);
          clips = clips cs ∙ ap clips_of same ∙ sym (clips ds);
          places = wrote cs ∙ ap flattened same ∙ sym (wrote ds);
          state =
              ends cs kc
              ∙ (λ t. retuned (last_fields (start_state s).params (c t)) (end_by (λ n. in_force s (c t) n) (start_state s) (e t))) ∙ sym (ends ds kd);
        }

pub timing_holds : TimingHolds
timing_holds s ok = record {
  whole = whole s ok;
  place = place s ok;
  apart = apart s ok;
  rest = rest s ok;
  delayed = λ cs ds i n kc kd h e g u. delayed s ok cs ds kc kd i n h e g u;
  cuts = λ cs ds a e. cuts s ok cs ds a.0 a.1 e a.2;
}

pub alike_lists : AlikeAhead
alike_lists s ok cs ds a = alike-ahead s ok cs ds a.0 a.1 a.2

-- ---- lists without commits

module _ (s : Sheet) where
  plain-keeps : (f : Frontend) (cs : List Call) → Plain s cs → KeepTo s f cs
  unfolding KeepTo
  plain-keeps f [] p = tt
  plain-keeps f (block t values out ∷ cs) p = (λ e. p.0, plain-keeps (state_by f (block t values out)) cs p.1)
  plain-keeps f (commit t ticket ∷ cs) p = absurd p

  plain-none : (n : ℕ) (f : Frontend) (cs : List Call) → Plain s cs → commits n f cs ≡ []
  unfolding commits
  plain-none n f [] p = refl
  plain-none n f (block t values out ∷ cs) p =
      let c : Call = block t values out in
      plain-none (n + length (taken_by f c)) (state_by f c) cs p.1
  plain-none n f (commit t ticket ∷ cs) p = absurd p

pub without_commits : WithoutCommits
without_commits s cs ds p q = (
  plain-keeps s (start_state s) cs p,
  plain-keeps s (start_state s) ds q,
  plain-none s 0 (start_state s) cs p ∙ sym (plain-none s 0 (start_state s) ds q),
)
