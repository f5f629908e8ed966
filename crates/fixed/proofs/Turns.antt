-- A block, sample after sample: what holds after n of its turns, and that the next turn keeps it.
-- The state after n samples is the definition's, and the output begins with the places of the symbols of these samples.
use Rattle.std.proofs.Common.{◌≡◌, ℕ, zero, suc, ◌+◌, ◌*◌, ◌/◌, ◌<◌, ◌≤◌, Bool, true, false, cond, List, [], ◌∷◌, ◌++◌, length, get_or, take, drop, ℤ, pos, sym, refl, ap, ◌∙◌, subst, append_assoc, append-nil, arith, length-append, length-take-le, take_all, take-suc, drop-drop, take_at, lt-ltb, le-leb}
use lib.Seq.{drop-append-add}
use Rattle.params.specs.Refusal.{nothing}
use Rattle.params.specs.Judge.{Sheet, judged}
use Rattle.params.proofs.Accepted.{judged-none, no-faults}
use Rattle.symbol.specs.declared.Symbol.{Symbol}
use Rattle.symbol.specs.Make.{symbol_from}
use Rattle.symbol.specs.Places.{places_of, Outcome, has_room, put_of}
use Rattle.state.specs.declared.Pair.{Pair}
use Rattle.state.specs.declared.Frontend.{Frontend}
use Rattle.state.specs.Start.{no_pair}
use Rattle.state.specs.Check.{good_state}
use Rattle.state.proofs.Going.{going}
use Rattle.state.proofs.Going.{good as back}
use Rattle.fixed.specs.Sample.{symbol_of, joined, falls, next, made_by, after, emitted}
use Rattle.fixed.specs.Block.{pairs_of, flattened, clips_of}
use Rattle.fixed.specs.Inside.{Ready, Writes}
use Rattle.fixed.proofs.Runs.{after-append, emitted-append, run-samples, flattened-append, length-flattened, clips-append}
use Rattle.fixed.proofs.States.{run-going}
use Rattle.fixed.proofs.Clips.{symbol-clips}

-- ---- the values as pairs

pub pairs-long : (values : List ℤ) → length (pairs_of values) ≡ length values / 2
unfolding pairs_of
pairs-long [] = refl
pairs-long (i ∷ []) = refl
pairs-long (i ∷ q ∷ values) = omega (arith, pairs-long values)

pub pairs-at : (values : List ℤ) (n : ℕ) → n < length values / 2
    → get_or (pairs_of values) n no_pair ≡ record { i = get_or values (2 * n) (pos 0); q = get_or values (2 * n + 1) (pos 0) }
unfolding pairs_of
pairs-at [] n h = absurd (omega arith)
pairs-at (i ∷ []) n h = absurd (omega arith)
pairs-at (i ∷ q ∷ values) zero h = refl
pairs-at (i ∷ q ∷ values) (suc n) h =
    let a : 2 * suc n ≡ suc (suc (2 * n)) = omega arith in
    let b : 2 * suc n + 1 ≡ suc (suc (2 * n + 1)) = omega arith in
    rw (b, a) (pairs-at values n (omega arith))

-- the first n pairs are those of the first 2 n values
pub pairs-cut : (values : List ℤ) (n : ℕ) → pairs_of (take (2 * n) values) ≡ take n (pairs_of values)
unfolding pairs_of
pairs-cut values zero = refl
pairs-cut [] (suc n) = let a : 2 * suc n ≡ suc (suc (2 * n)) = omega arith in rw a refl
pairs-cut (i ∷ []) (suc n) = let a : 2 * suc n ≡ suc (suc (2 * n)) = omega arith in rw a refl
pairs-cut (i ∷ q ∷ values) (suc n) =
    let a : 2 * suc n ≡ suc (suc (2 * n)) = omega arith in
    rw a (ap (λ (l : List Pair). record { i = i; q = q } ∷ l) (pairs-cut values n))

-- and those behind them are those of the values behind
pub pairs-rest : (values : List ℤ) (n : ℕ) → pairs_of (drop (2 * n) values) ≡ drop n (pairs_of values)
unfolding pairs_of
pairs-rest values zero = refl
pairs-rest [] (suc n) = let a : 2 * suc n ≡ suc (suc (2 * n)) = omega arith in rw a refl
pairs-rest (i ∷ []) (suc n) = let a : 2 * suc n ≡ suc (suc (2 * n)) = omega arith in rw a refl
pairs-rest (i ∷ q ∷ values) (suc n) = let a : 2 * suc n ≡ suc (suc (2 * n)) = omega arith in rw a (pairs-rest values n)

-- ---- a turn's output

-- with room for it, a symbol goes behind the others
put_is : (y : Symbol) (count : ℕ) (out : List ℤ) → count < length out / 20 → y.sample ≤ 9223372036854775807
    → put_of y count out ≡ record { count = count + 1; output = take (20 * count) out ++ (places_of y ++ drop (20 * count + 20) out) }
unfolding put_of has_room
put_is y count out h k = rw (lt-ltb count (length out / 20) h, le-leb y.sample 9223372036854775807 k) refl

writes-none : (out : List ℤ) → Writes [] out out 0 0
unfolding flattened clips_of
writes-none out = record { counted = refl; clipped = refl; written = refl }

-- a symbol more
writes-next : {ys : List Symbol} {out₀ out : List ℤ} {count clips : ℕ} (y : Symbol) → count < length out / 20 → y.sample ≤ 9223372036854775807
    → Writes ys out₀ out count clips
    → let put : Outcome = put_of y count out in Writes (ys ++ (y ∷ [])) out₀ put.output put.count (clips + y.clips)
unfolding flattened clips_of
writes-next {ys} {out₀} {out} {count} {clips} y room fits o =
    let long : length (flattened ys) ≡ 20 * count = length-flattened ys ∙ ap (λ (n : ℕ). 20 * n) (sym o.counted) in
    let front : take (20 * count) out ≡ flattened ys = ap (take (20 * count)) o.written ∙ take_at (flattened ys) (drop (20 * count) out₀) (20 * count) long in
    let seam : 20 * count + 20 ≡ length (flattened ys) + 20 = omega arith in
    let far : 20 * count + 20 ≡ 20 * (count + 1) = omega arith in
    let back : drop (20 * count + 20) out ≡ drop (20 * (count + 1)) out₀ =
    ap (drop (20 * count + 20)) o.written ∙ ap (λ (n : ℕ). drop n (flattened ys ++ drop (20 * count) out₀)) seam
    ∙ drop-append-add (flattened ys) (drop (20 * count) out₀) 20 ∙ drop-drop 20 (20 * count) out₀ ∙ ap (λ (n : ℕ). drop n out₀) far in
    let all : flattened (ys ++ (y ∷ [])) ≡ flattened ys ++ places_of y =
    flattened-append ys (y ∷ []) ∙ ap (λ (l : List ℤ). flattened ys ++ l) (append-nil (places_of y)) in
    rw (put_is y count out room fits) (record {
      counted = omega (arith, o.counted, length-append ys (y ∷ []));
      clipped = omega (arith, o.clipped, clips-append ys (y ∷ []));
      written =
          (λ i. front i ++ (places_of y ++ back i)) ∙ sym (append_assoc (flattened ys) (places_of y) (drop (20 * (count + 1)) out₀))
          ∙ ap (λ (l : List ℤ). l ++ drop (20 * (count + 1)) out₀) (sym all);
    })

-- ---- a symbol that a sample made

module _ (s : Sheet) (f : Frontend) (a : Pair) (y : Symbol) (is : y ∷ [] ≡ made_by s f a) where
  made-symbol : y ≡ symbol_of s (joined s f a)
  unfolding made_by
  made-symbol = go (falls f) refl
    where
      go : (b : Bool) → falls f ≡ b → y ≡ symbol_of s (joined s f a)
      go true e = let h : y ∷ [] ≡ symbol_of s (joined s f a) ∷ [] = is ∙ ap (λ (b : Bool). cond b (symbol_of s (joined s f a) ∷ []) []) e in cc
      go false e = let h : y ∷ [] ≡ [] = is ∙ ap (λ (b : Bool). cond b (symbol_of s (joined s f a) ∷ []) []) e in cc

  pub made-clips : y.clips ≤ 12
  made-clips = rw made-symbol (symbol-clips s (joined s f a))

  pub made-sample : y.sample ≡ f.samples
  unfolding symbol_of symbol_from joined
  made-sample = ap (λ (z : Symbol). z.sample) made-symbol

-- ---- the turns

module _ (s : Sheet) (values : List ℤ) (out₀ : List ℤ) (f₀ : Frontend) where
  -- The samples of the first n turns.
  abbrev some : ℕ → List Pair
  some n = take n (pairs_of values)

  pub record Turned (out : List ℤ) (f : Frontend) (count clips n : ℕ) : Type 0 where
    pub most : n ≤ length values / 2
    pub few : count ≤ n
    pub few-clips : clips ≤ 12 * n
    pub long : length out ≡ length out₀
    pub writes : Writes (emitted s f₀ (some n)) out₀ out count clips
    pub is : f ≡ after s f₀ (some n)

  pub turned_none : Turned out₀ f₀ 0 0 0
  unfolding after emitted
  turned_none = record { most = omega arith; few = omega arith; few-clips = omega arith; long = refl; writes = writes-none out₀; is = refl }

  -- the samples of one turn more
  some_next : (n : ℕ) (a : Pair) → n < length values / 2 → get_or (pairs_of values) n no_pair ≡ a → some (n + 1) ≡ some n ++ (a ∷ [])
  some_next n a h e =
      let one_more : n + 1 ≡ suc n = omega arith in
      ap some one_more ∙ take-suc (pairs_of values) n no_pair (omega (arith, pairs-long values)) ∙ ap (λ (z : Pair). some n ++ (z ∷ [])) e

  after_next : {f : Frontend} (n : ℕ) (a : Pair) → n < length values / 2 → get_or (pairs_of values) n no_pair ≡ a → f ≡ after s f₀ (some n)
      → next s f a ≡ after s f₀ (some (n + 1))
  unfolding after
  after_next n a h e is =
      ap (λ (f : Frontend). next s f a) is ∙ sym (ap (after s f₀) (some_next n a h e) ∙ after-append s f₀ (some n) (a ∷ []))

  emitted_next : {f : Frontend} (n : ℕ) (a : Pair) → n < length values / 2 → get_or (pairs_of values) n no_pair ≡ a → f ≡ after s f₀ (some n)
      → emitted s f₀ (some n) ++ made_by s f a ≡ emitted s f₀ (some (n + 1))
  unfolding emitted
  emitted_next n a h e is =
      sym (ap (emitted s f₀) (some_next n a h e) ∙ emitted-append s f₀ (some n) (a ∷ [])
      ∙ ap (λ (l : List Symbol). emitted s f₀ (some n) ++ l) (append-nil (made_by s (after s f₀ (some n)) a) ∙ ap (λ (f : Frontend). made_by s f a) (sym is)))

  module _ (accepted : judged s ≡ nothing) (good : good_state s.params f₀ ≡ true) (room : 20 * (length values / 2) ≤ length out₀)
      (countable : f₀.samples + length values / 2 ≤ 9223372036854775807) where
    turned-samples : {out : List ℤ} {f : Frontend} {count clips n : ℕ} → Turned out f count clips n → f.samples ≡ f₀.samples + n
    turned-samples {n = n} t =
        ap (λ (f : Frontend). f.samples) t.is ∙ run-samples s f₀ (some n)
        ∙ ap (λ (m : ℕ). f₀.samples + m) (length-take-le n (pairs_of values) (omega (arith, pairs-long values, t.most)))

    -- at a turn that there is a pair for, a sample can be pushed
    pub turned-ready : {out : List ℤ} {f : Frontend} {count clips n : ℕ} → Turned out f count clips n → n < length values / 2 → Ready s f
    turned-ready {n = n} t below = record {
      accepted = accepted;
      good =
          rw t.is (back s.params (after s f₀ (some n)) (run-going s (no-faults s (judged-none s accepted)) f₀ (some n) (going s.params f₀ good)));
      room = omega (arith, turned-samples t);
    }

    pub turned-made : {out out' : List ℤ} {f f' : Frontend} {count count' clips n : ℕ} {a : Pair} (y : Symbol) → Turned out f count clips n
        → n < length values / 2 → get_or (pairs_of values) n no_pair ≡ a → f' ≡ next s f a → y ∷ [] ≡ made_by s f a
        → ◌≡◌ {A = Outcome} (record { count = count'; output = out' }) (put_of y count out) → length out' ≡ length out
        → Turned out' f' count' (clips + y.clips) (n + 1)
    turned-made {out} {out'} {f} {f'} {count} {count'} {clips} {n} {a} y t below at is made put same =
        let free : count < length out / 20 = omega (arith, t.few, t.long) in
        let fits : y.sample ≤ 9223372036854775807 = omega (arith, made-sample s f a y made, turned-samples t) in
        let writes : Writes (emitted s f₀ (some n) ++ (y ∷ [])) out₀ out' count' (clips + y.clips) =
        subst (λ (put : Outcome). Writes (emitted s f₀ (some n) ++ (y ∷ [])) out₀ put.output put.count (clips + y.clips)) (sym put)
        (writes-next y free fits t.writes) in
        record {
          most = omega arith;
          few = omega (arith, ap (λ (o : Outcome). o.count) put, ap (λ (o : Outcome). o.count) (put_is y count out free fits), t.few);
          few-clips = omega (arith, t.few-clips, made-clips s f a y made);
          long = same ∙ t.long;
          writes =
              subst (λ (ys : List Symbol). Writes ys out₀ out' count' (clips + y.clips))
              (ap (λ (l : List Symbol). emitted s f₀ (some n) ++ l) made ∙ emitted_next n a below at t.is) writes;
          is = is ∙ after_next n a below at t.is;
        }

    pub turned-silent : {out : List ℤ} {f f' : Frontend} {count clips n : ℕ} {a : Pair} → Turned out f count clips n → n < length values / 2
        → get_or (pairs_of values) n no_pair ≡ a → f' ≡ next s f a → [] ≡ made_by s f a → Turned out f' count clips (n + 1)
    turned-silent {out} {f} {f'} {count} {clips} {n} {a} t below at is made = record {
      most = omega arith;
      few = omega (arith, t.few);
      few-clips = omega (arith, t.few-clips);
      long = t.long;
      writes =
          subst (λ (ys : List Symbol). Writes ys out₀ out count clips)
          (sym (append-nil (emitted s f₀ (some n))) ∙ ap (λ (l : List Symbol). emitted s f₀ (some n) ++ l) made ∙ emitted_next n a below at t.is) t.writes;
      is = is ∙ after_next n a below at t.is;
    }

  -- after the last turn, all samples are taken
  pub some-all : (n : ℕ) → length values / 2 ≤ n → some n ≡ pairs_of values
  some-all n h = take_all n (pairs_of values) (omega (arith, pairs-long values))
