-- What holds of a state and of the symbols made on the way to it from a fresh start, kept by each sample and by each commit; and what it says of each symbol.
-- A sample without a symbol takes a whole sample off the time; one with a symbol adds the period that the symbol reports, so times and periods keep in step.
-- A commit changes none of it but the clamps, and is accepted only where the loop is within the new ones.
use Prim.Native.Nat.{ℕ, zero, suc, ◌+◌, ◌-◌, ◌*◌, ◌/◌, ◌%◌, ◌≤◌, ◌<◌, min}
use mathlib.Core.Path.{◌≡◌, refl, sym, ap, ◌∙◌}
use mathlib.Core.Logic.{◌≢◌}
use mathlib.Core.Bool.{Bool, true, false, cond}
use mathlib.Core.List.{List, [], ◌∷◌, ◌++◌, append_assoc, append-nil}
use native.Mathlib.Omega.{arith}
use lib.Dec.{ltb, eqb}
use lib.ListN.{length, get_or, set, take, drop, length-append, length-set, length-drop, get_or-append, drop_of_length-le}
use lib.Seq.{take-append-le, drop-append-le, get_or_at, get_or-set_same, get_or-set_other, take-length}
use lib.IntN.{ℤ, pos, nat_abs, ◌+ℤ◌, ◌-ℤ◌}
use lib.Signed.{lt_z}
use borrow.Author.Tests.{ltb-true, ltb-false, eqb-true, eqb-false}
use Rattle.params.specs.declared.Params.{Params}
use Rattle.params.specs.Judge.{Sheet}
use Rattle.params.proofs.Accepted.{Accepted}
use Rattle.state.specs.declared.Pair.{Pair}
use Rattle.registers.specs.declared.Pending.{Pending}
use Rattle.registers.specs.declared.Registers.{Registers}
use Rattle.state.specs.declared.Frontend.{Frontend}
use Rattle.symbol.specs.declared.Symbol.{Symbol}
use Rattle.state.specs.Start.{ring_places, no_pending, fresh}
use Rattle.registers.specs.Step.{is_due, one, found, left}
use Rattle.fixed.specs.Sample.{found_in, symbol_of, joined, with_symbol, without_symbol, falls, next, made_by}
use Rattle.symbol.specs.Make.{symbol_from}
use Rattle.retune.specs.Retune.{retuned}
use Rattle.state.proofs.Going.{time, minus-nat, Going}
use Rattle.fixed.proofs.States.{head-below, found-time, found-symbols}
use Rattle.registers.proofs.Loops.{Loop, loop_of, corrected-moves, Within, moved-within}
use Rattle.timing.proofs.Errors.{total, total-append, errors, errors_of, errors-append, length-errors}
use Rattle.timing.proofs.Errors.{moved_by, moved_by-next, moved_by-take, fresh_loop, fresh-within}

-- of runs that began with the fields p₀, and that went through sample n under the fields P n
module _ (p₀ : Params) (P : ℕ → Params) where
  -- how many symbols later errors act
  abbrev pub delay : ℕ
  delay = p₀.delay

  -- the fields under which symbols were made
  unfoldable pub fields_of : List Symbol → List Params
  fields_of [] = []
  fields_of (y ∷ ys) = P y.sample ∷ fields_of ys

  pub fields-append : (a b : List Symbol) → fields_of (a ++ b) ≡ fields_of a ++ fields_of b
  unfolding fields_of
  fields-append [] b = refl
  fields-append (y ∷ a) b = ap (λ (l : List Params). P y.sample ∷ l) (fields-append a b)

  pub length_fields : (a : List Symbol) → length (fields_of a) ≡ length a
  unfolding fields_of
  length_fields [] = refl
  length_fields (y ∷ a) = ap suc (length_fields a)

  -- The loop once each symbol under one of these fields has found the errors that were due: those of symbol n at symbol n + delay.
  abbrev pub loop_at : List Params → List Symbol → Loop
  loop_at ps S = moved_by (fresh_loop p₀) (drop delay ps) (errors S)

  -- the loop and the errors that wait behind the symbols S: only a symbol changes them
  pub record Made (n : ℕ) (l : Loop) (ring : List Pending) (count first : ℕ) (S : List Symbol) : Type 0 where
    pub symbols : n ≡ length S
    pub loop : l ≡ loop_at (fields_of S) S
    pub size : length ring ≡ ring_places
    pub waiting : count ≡ min (length S) delay
    pub oldest : first ≡ (length S - delay) % ring_places
    pub queue : (j : ℕ) → j < length S → length S ≤ j + delay → get_or ring (j % ring_places) no_pending ≡ get_or (errors S) j no_pending

  -- under the fields p
  pub record Inv (p : Params) (f : Frontend) (S : List Symbol) : Type 0 where
    pub same-delay : p.delay ≡ delay
    pub whole : f.registers.t_acc ≡ pos (time f)
    pub sum : f.samples * 16777216 + time f ≡ total S
    pub rest : time f < 67108863
    pub within : Within p (loop_of f.registers)
    pub made : Made f.registers.symbols (loop_of f.registers) f.pending f.waiting f.oldest S
    pub few : length S ≤ f.samples
    pub head : f.head < p.taps

  -- so a block can go on
  pub inv-going : (p : Params) (f : Frontend) (S : List Symbol) → Inv p f S → Going p f
  inv-going p f S i = record {
    head = i.head;
    whole = i.whole;
    soon = omega arith;
    loop = i.within;
    waiting = omega arith;
    oldest = omega arith;
    few = omega arith;
  }

  -- what holds of a symbol, by the symbols before it
  pub record Placed (S : List Symbol) (y : Symbol) : Type 0 where
    pub place : y.sample * 64 + y.phase ≡ total S / 262144
    pub phase : y.phase < 64
    pub period : y.period ≡ (loop_at (fields_of (S ++ (y ∷ []))) S).period
    pub gain : y.gain ≡ (loop_at (fields_of (S ++ (y ∷ []))) S).gain / 256
    pub long : 16777216 < y.period
    pub short : y.period < 67108864

  -- the same of each symbol of a list that comes after S
  abbrev pub Each : List Symbol → List Symbol → Type 0
  Each S [] = Unit {0}
  Each S (y ∷ ys) = Placed S y × Each (S ++ (y ∷ [])) ys

  pub each_append : (S A B : List Symbol) → Each S A → Each (S ++ A) B → Each S (A ++ B)
  each_append S [] B a b = rw (append-nil S) at b
  each_append S (y ∷ A) B a b = (a.0, each_append (S ++ (y ∷ [])) A B a.1 (rw (append_assoc S (y ∷ []) A) b))

  pub each_at : (S Z : List Symbol) → Each S Z → (k : ℕ) (d : Symbol) → k < length Z → Placed (S ++ take k Z) (get_or Z k d)
  each_at S [] e k d h = absurd (omega arith)
  each_at S (y ∷ Z) e zero d h = rw (append-nil S) e.0
  each_at S (y ∷ Z) e (suc k) d h = rw (append_assoc S (y ∷ []) (take k Z)) at (each_at (S ++ (y ∷ [])) Z e.1 k d (omega arith))

  -- ---- the state before the first sample

  pub fresh-inv : (s : Sheet) → Accepted s → s.params ≡ p₀ → Inv s.params (fresh p₀) []
  unfolding fresh total errors fields_of moved_by
  fresh-inv s a e = record {
    same-delay = ap (λ (p : Params). p.delay) e;
    whole = refl;
    sum = refl;
    rest = omega arith;
    within = rw (← e) (fresh-within s.params a.periods a.fields);
    made = record {
      symbols = refl;
      loop = rw (drop_of_length-le {A = Params} [] {i = delay} (omega arith));
      size = refl;
      waiting = omega arith;
      oldest = omega arith;
      queue = λ j h k. absurd (omega arith);
    };
    few = omega arith;
    head = omega (arith, a.lengths.good.least);
  }

  -- ---- a commit

  -- the loop stays, and is within the new clamps
  pub retuned-inv : (p q : Params) (f : Frontend) (S : List Symbol) → Going q f → q.delay ≡ p.delay → Inv p f S → Inv q (retuned q f) S
  unfolding retuned
  retuned-inv p q f S g e i = record {
    same-delay = e ∙ i.same-delay;
    whole = i.whole;
    sum = i.sum;
    rest = i.rest;
    within = g.loop;
    made = i.made;
    few = i.few;
    head = g.head;
  }

  -- ---- a sample

  module _ (s : Sheet) (a : Accepted s) where
    abbrev p : Params
    p = s.params

    -- mixing and the line leave all of it as it was, but for the newest's position
    joined-inv : (f : Frontend) (S : List Symbol) (x : Pair) → Inv p f S → Inv p (joined s f x) S
    unfolding joined
    joined-inv f S x i = record {
      same-delay = i.same-delay;
      whole = i.whole;
      sum = i.sum;
      rest = i.rest;
      within = i.within;
      made = i.made;
      few = i.few;
      head = head-below p.taps f.head i.head;
    }

    -- ---- without a symbol

    without-symbol-inv : (f : Frontend) (S : List Symbol) → 16777216 ≤ time f → Inv p f S → Inv p (without_symbol f) S
    unfolding without_symbol
    without-symbol-inv f S h i =
        let t : f.registers.t_acc -ℤ one ≡ pos (time f - 16777216) = rw i.whole (minus-nat (time f) 16777216 h) in
        let n : nat_abs (f.registers.t_acc -ℤ one) ≡ time f - 16777216 = ap nat_abs t in
        record {
          same-delay = i.same-delay;
          whole = t ∙ ap pos (sym n);
          sum = omega arith;
          rest = omega arith;
          within = i.within;
          made = i.made;
          few = omega arith;
          head = i.head;
        }

    -- ---- with one

    -- the loop as a symbol finds it: after the errors of all but the newest before it, one fewer than the delay
    found-loop : (f : Frontend) (S : List Symbol) → Inv p f S → loop_of (found_in p f) ≡ loop_at (fields_of S ++ (p ∷ [])) S
    unfolding found_in found
    found-loop f S i = go (is_due p.delay f.waiting) refl
      where
        n : ℕ
        n = length S - delay

        oldest : Pending
        oldest = get_or f.pending f.oldest no_pending

        -- the fields of the symbols at which errors were applied
        before : List Params
        before = drop delay (fields_of S)

        go : (b : Bool) → is_due p.delay f.waiting ≡ b → loop_of (found_in p f) ≡ loop_at (fields_of S ++ (p ∷ [])) S
        go true e =
            let c : f.waiting ≡ delay = eqb-true f.waiting p.delay e ∙ i.same-delay in
            let q : oldest ≡ get_or (errors S) n no_pending = rw i.made.oldest (i.made.queue n (omega (arith, a.fields)) (omega arith)) in
            let many : length before ≡ n = omega (arith, length-drop delay (fields_of S), length_fields S) in
            let new : drop delay (fields_of S ++ (p ∷ [])) ≡ before ++ (p ∷ []) =
            drop-append-le delay (fields_of S) (p ∷ []) (omega (arith, length_fields S)) in
            rw (
              e,
              corrected-moves p f.registers oldest,
              i.made.loop,
              q,
              new,
              moved_by-next (fresh_loop p₀) before p (errors S) (omega (arith, length-errors S)),
              many,
            )
        go false e =
            let c : f.waiting ≢ p.delay = eqb-false f.waiting p.delay e in
            let none : drop delay (fields_of S) ≡ [] = drop_of_length-le (fields_of S) {i = delay} (omega (arith, length_fields S, i.same-delay)) in
            let still : drop delay (fields_of S ++ (p ∷ [])) ≡ [] = drop_of_length-le (fields_of S ++ (p ∷ [])) {i = delay}
            (omega (arith, length-append (fields_of S) (p ∷ []), length_fields S, i.same-delay)) in
            rw (e, i.made.loop, none, still)

    found-within : (f : Frontend) (S : List Symbol) → Inv p f S → Within p (loop_of (found_in p f))
    unfolding found_in found
    found-within f S i = go (is_due p.delay f.waiting) refl
      where
        go : (b : Bool) → is_due p.delay f.waiting ≡ b → Within p (loop_of (found_in p f))
        go true e = rw (e, corrected-moves p f.registers (get_or f.pending f.oldest no_pending)) (moved-within p a.periods a.fields _ _)
        go false e = rw e i.within

    -- the symbol's own fields come behind those before it
    own-fields : (f : Frontend) (S : List Symbol) → P f.samples ≡ p → fields_of (S ++ (symbol_of s f ∷ [])) ≡ fields_of S ++ (p ∷ [])
    unfolding symbol_of symbol_from fields_of
    own-fields f S e = fields-append S (symbol_of s f ∷ []) ∙ ap (λ (q : Params). fields_of S ++ (q ∷ [])) e

    symbol-placed : (f : Frontend) (S : List Symbol) → P f.samples ≡ p → Inv p f S → time f < 16777216 → Placed S (symbol_of s f)
    unfolding symbol_of symbol_from
    symbol-placed f S e i h =
        let w = found-within f S i in
        let l : loop_of (found_in p f) ≡ loop_at (fields_of (S ++ (symbol_of s f ∷ []))) S =
        found-loop f S i ∙ ap (λ (ps : List Params). loop_at ps S) (sym (own-fields f S e)) in
        record {
          place = omega arith;
          phase = omega arith;
          period = ap (λ (l : Loop). l.period) l;
          gain = ap (λ (l : Loop). l.gain / 256) l;
          long = omega (arith, a.periods);
          short = omega (arith, a.periods);
        }

    -- a new error goes to the place of its symbol's number modulo the ring's places
    slot : (f : Frontend) (S : List Symbol) → Inv p f S → (f.oldest + f.waiting) % ring_places ≡ length S % ring_places
    slot f S i = omega arith

    -- a symbol's own error is not among those that have been applied
    loop-snoc : (f : Frontend) (S : List Symbol) (y : Symbol) (ps : List Params) → length ps ≡ length S + 1 → 1 ≤ delay
        → loop_at ps (S ++ (y ∷ [])) ≡ loop_at ps S
    unfolding errors
    loop-snoc f S y ps many least =
        let used : length (drop delay ps) ≤ length (errors S) = omega (arith, length-drop delay ps, length-errors S) in
        sym (moved_by-take (fresh_loop p₀) (drop delay ps) (errors (S ++ (y ∷ []))) (length (errors S)) used)
        ∙ ap (moved_by (fresh_loop p₀) (drop delay ps)) (ap (take (length (errors S))) (errors-append S (y ∷ []))
        ∙ take-append-le (length (errors S)) (errors S) (errors_of y ∷ []) (omega arith) ∙ take-length (errors S))

    -- the ring, a symbol on
    queue-snoc : (l : List Pending) (S : List Symbol) (w : Pending) → length l ≡ ring_places
        → ((j : ℕ) → j < length S → length S ≤ j + delay → get_or l (j % ring_places) no_pending ≡ get_or (errors S) j no_pending)
        → delay ≤ ring_places → (j : ℕ) → j < length S + 1 → length S + 1 ≤ j + delay
        → get_or (set l (length S % ring_places) w) (j % ring_places) no_pending ≡ get_or (errors S ++ (w ∷ [])) j no_pending
    queue-snoc l S w z q ring j u v = go (eqb j (length S)) refl
      where
        go : (e : Bool) → eqb j (length S) ≡ e
            → get_or (set l (length S % ring_places) w) (j % ring_places) no_pending ≡ get_or (errors S ++ (w ∷ [])) j no_pending
        go true e =
            rw (
              eqb-true j (length S) e,
              get_or-set_same l (length S % ring_places) w no_pending (omega arith),
              get_or_at (errors S) w [] no_pending (length S) (length-errors S),
            )
        go false e =
            let d : j ≢ length S = eqb-false j (length S) e in
            rw (
              get_or-set_other l (length S % ring_places) (j % ring_places) w no_pending (omega arith),
              get_or-append (errors S) (w ∷ []) no_pending j (omega (arith, length-errors S)),
            )
            (q j (omega arith) (omega arith))

    waiting-next : (n c : ℕ) → p.delay ≡ delay → c ≡ min n delay → cond (is_due p.delay c) c (c + 1) ≡ min (n + 1) delay
    waiting-next n c same h = grind arith

    oldest-next : (n c o : ℕ) → p.delay ≡ delay → c ≡ min n delay → o ≡ (n - delay) % ring_places
        → cond (is_due p.delay c) ((o + 1) % ring_places) o ≡ (n + 1 - delay) % ring_places
    oldest-next n c o same h l = grind arith

    total-snoc : (f : Frontend) (S : List Symbol) → total (S ++ (symbol_of s f ∷ [])) ≡ total S + (found_in p f).period
    unfolding total symbol_of symbol_from
    total-snoc f S = omega (arith, total-append S (symbol_of s f ∷ []))

    -- the time after a symbol
    time-on : (f : Frontend) (S : List Symbol) → Inv p f S
        → (found_in p f).t_acc +ℤ pos (found_in p f).period -ℤ one ≡ pos (time f + (found_in p f).period - 16777216)
    time-on f S i =
        let w = found-within f S i in
        ap (λ (z : ℤ). z +ℤ pos (found_in p f).period -ℤ one) (found-time p f ∙ i.whole)
        ∙ minus-nat (time f + (found_in p f).period) 16777216 (omega (arith, a.periods))

    with-symbol-inv : (f : Frontend) (S : List Symbol) → P f.samples ≡ p → Inv p f S → time f < 16777216 → Inv p (with_symbol s f) (S ++ (symbol_of s f ∷ []))
    unfolding with_symbol left errors
    with-symbol-inv f S e i h =
        let m = i.made in
        let y : Symbol = symbol_of s f in
        let r : Registers = found_in p f in
        let len : length (S ++ (y ∷ [])) ≡ length S + 1 = length-append S (y ∷ []) in
        let ps : List Params = fields_of S ++ (p ∷ []) in
        let many : length ps ≡ length S + 1 = omega (arith, length-append (fields_of S) (p ∷ []), length_fields S) in
        let w = found-within f S i in
        let t = time-on f S i in
        let n : nat_abs (r.t_acc +ℤ pos r.period -ℤ one) ≡ time f + r.period - 16777216 = ap nat_abs t in
        record {
          same-delay = i.same-delay;
          whole = t ∙ ap pos (sym n);
          sum = omega (arith, total-snoc f S, a.periods);
          rest = omega (arith, a.periods);
          within = w;
          made = record {
            symbols = omega (arith, found-symbols p f);
            loop =
                found-loop f S i ∙ sym (loop-snoc f S y ps many (omega (arith, i.same-delay, a.fields)))
                ∙ ap (λ (qs : List Params). loop_at qs (S ++ (y ∷ []))) (sym (own-fields f S e));
            size = length-set f.pending _ _ ∙ m.size;
            waiting = rw len (waiting-next (length S) f.waiting i.same-delay m.waiting);
            oldest = rw len (oldest-next (length S) f.waiting f.oldest i.same-delay m.waiting m.oldest);
            queue = λ j u v. rw (slot f S i, errors-append S (y ∷ []))
                (queue-snoc f.pending S (errors_of y) m.size m.queue (omega (arith, i.same-delay, a.fields)) j (omega arith) (omega arith));
          };
          few = omega arith;
          head = i.head;
        }

    -- ---- with one or without

    -- whether a symbol falls due, of a time that is not below zero
    falls-is : (f : Frontend) (S : List Symbol) → Inv p f S → falls f ≡ ltb (time f) 16777216
    falls-is f S i = ap (λ (z : ℤ). lt_z z one) i.whole

    next-is : (f : Frontend) (x : Pair) (b : Bool) → falls f ≡ b → next s f x ≡ cond b (with_symbol s (joined s f x)) (without_symbol (joined s f x))
    unfolding next
    next-is f x b e = ap (λ (t : Bool). cond t (with_symbol s (joined s f x)) (without_symbol (joined s f x))) e

    made-is : (f : Frontend) (x : Pair) (b : Bool) → falls f ≡ b → made_by s f x ≡ cond b (symbol_of s (joined s f x) ∷ []) []
    unfolding made_by
    made-is f x b e = ap (λ (t : Bool). cond t (symbol_of s (joined s f x) ∷ []) []) e

    pub next-inv : (f : Frontend) (S : List Symbol) (x : Pair) → P f.samples ≡ p → Inv p f S → Inv p (next s f x) (S ++ made_by s f x)
    unfolding joined
    next-inv f S x at i = go (falls f) refl
      where
        go : (b : Bool) → falls f ≡ b → Inv p (next s f x) (S ++ made_by s f x)
        go true e =
            rw (next-is f x true e, made-is f x true e)
            (with-symbol-inv (joined s f x) S at (joined-inv f S x i) (ltb-true (time f) 16777216 (sym (falls-is f S i) ∙ e)))
        go false e =
            rw (next-is f x false e, made-is f x false e, append-nil S)
            (without-symbol-inv (joined s f x) S (ltb-false (time f) 16777216 (sym (falls-is f S i) ∙ e)) (joined-inv f S x i))

    pub next-placed : (f : Frontend) (S : List Symbol) (x : Pair) → P f.samples ≡ p → Inv p f S → Each S (made_by s f x)
    unfolding joined
    next-placed f S x at i = go (falls f) refl
      where
        go : (b : Bool) → falls f ≡ b → Each S (made_by s f x)
        go true e =
            rw (made-is f x true e)
            (symbol-placed (joined s f x) S at (joined-inv f S x i) (ltb-true (time f) 16777216 (sym (falls-is f S i) ∙ e)), tt)
        go false e = rw (made-is f x false e) tt
