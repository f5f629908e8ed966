-- Each sample keeps a state one that a block can go on from, in general and not only from a fresh start.
-- The loop's registers are held by clamps, the time goes down by a sample and up by a period of one to four, and a symbol adds one to the count beside a
-- sample's one.
use Rattle.std.proofs.Common.{◌≡◌, ℕ, ◌+◌, ◌-◌, ◌%◌, ◌<◌, ◌≤◌, min, Bool, true, false, cond, eqb, List, [], ◌∷◌, get_or, ℤ, pos, ◌+ℤ◌, ◌-ℤ◌, nat_abs, sym, refl, ap, ◌∙◌, subst, arith, ltb-false, ltb-true, eqb-true}
use lib.Signed.{lt_z}
use borrow.Author.Tests.{eqb-false}
use Rattle.params.specs.declared.Params.{Params}
use Rattle.params.specs.Judge.{Sheet}
use Rattle.params.proofs.Accepted.{Accepted}
use Rattle.registers.specs.declared.Pending.{Pending}
use Rattle.registers.specs.declared.Registers.{Registers}
use Rattle.registers.specs.Correct.{corrected}
use Rattle.registers.specs.Step.{one, found, left}
use Rattle.registers.proofs.Loops.{loop_of, corrected-moves, Within, moved-within}
use Rattle.state.specs.declared.Pair.{Pair}
use Rattle.state.specs.declared.Frontend.{Frontend}
use Rattle.state.specs.Start.{ring_places, no_pending}
use Rattle.state.proofs.Going.{time, minus-nat, Going}
use Rattle.fixed.specs.Line.{next_head}
use Rattle.fixed.specs.Queue.{oldest_due}
use Rattle.fixed.specs.Sample.{found_in, joined, with_symbol, without_symbol, falls, next, after}

-- ---- the line's position

pub head-below : (taps head : ℕ) → head < taps → next_head taps head < taps
unfolding next_head
head-below taps head h = go (eqb head 0) refl
  where
    go : (b : Bool) → eqb head 0 ≡ b → cond (eqb head 0) (taps - 1) (head - 1) < taps
    go true e = rw e (omega arith)
    go false e = rw e (omega arith)

-- ---- the errors that are due move the loop, and nothing else

pub found-time : (p : Params) (f : Frontend) → (found_in p f).t_acc ≡ f.registers.t_acc
unfolding found_in found corrected
found-time p f = go (oldest_due p f) refl
  where
    go : (b : Bool) → oldest_due p f ≡ b → (found_in p f).t_acc ≡ f.registers.t_acc
    go true e = rw e
    go false e = rw e

pub found-symbols : (p : Params) (f : Frontend) → (found_in p f).symbols ≡ f.registers.symbols
unfolding found_in found corrected
found-symbols p f = go (oldest_due p f) refl
  where
    go : (b : Bool) → oldest_due p f ≡ b → (found_in p f).symbols ≡ f.registers.symbols
    go true e = rw e
    go false e = rw e

-- ---- kept by each sample

module _ (s : Sheet) (a : Accepted s) where
  abbrev p : Params
  p = s.params

  pub joined-going : (f : Frontend) (x : Pair) → Going p f → Going p (joined s f x)
  unfolding joined
  joined-going f x g = record {
    head = head-below p.taps f.head g.head;
    whole = g.whole;
    soon = g.soon;
    loop = g.loop;
    waiting = g.waiting;
    oldest = g.oldest;
    few = g.few;
  }

  pub without-symbol-going : (f : Frontend) → 16777216 ≤ time f → Going p f → Going p (without_symbol f)
  unfolding without_symbol
  without-symbol-going f h g =
      let t : f.registers.t_acc -ℤ one ≡ pos (time f - 16777216) = rw g.whole (minus-nat (time f) 16777216 h) in
      let n : nat_abs (f.registers.t_acc -ℤ one) ≡ time f - 16777216 = ap nat_abs t in
      record {
        head = g.head;
        whole = t ∙ ap pos (sym n);
        soon = omega arith;
        loop = g.loop;
        waiting = g.waiting;
        oldest = g.oldest;
        few = omega arith;
      }

  -- the loop as a symbol finds it
  pub found-within : (f : Frontend) → Going p f → Within p (loop_of (found_in p f))
  unfolding found_in found
  found-within f g = go (oldest_due p f) refl
    where
      r : Registers
      r = f.registers

      w : Pending
      w = get_or f.pending f.oldest no_pending

      go : (b : Bool) → oldest_due p f ≡ b → Within p (loop_of (found_in p f))
      go true e =
          subst (λ (b : Bool). Within p (loop_of (cond b (corrected p r w) r))) (sym e)
          (subst (Within p) (sym (corrected-moves p r w)) (moved-within p a.periods a.fields (loop_of r) w))
      go false e = subst (λ (b : Bool). Within p (loop_of (cond b (corrected p r w) r))) (sym e) g.loop

  pub with-symbol-going : (f : Frontend) → time f < 16777216 → Going p f → Going p (with_symbol s f)
  unfolding with_symbol left
  with-symbol-going f h g =
      let w = found-within f g in
      let n : ℕ = time f + (found_in p f).period in
      let t : (found_in p f).t_acc +ℤ pos (found_in p f).period -ℤ one ≡ pos (n - 16777216) =
      ap (λ (z : ℤ). z +ℤ pos (found_in p f).period -ℤ one) (found-time p f ∙ g.whole) ∙ minus-nat n 16777216 (omega (arith, a.periods, w.low)) in
      let m : nat_abs ((found_in p f).t_acc +ℤ pos (found_in p f).period -ℤ one) ≡ n - 16777216 = ap nat_abs t in
      record {
        head = g.head;
        whole = t ∙ ap pos (sym m);
        soon = omega (arith, a.periods, w.high);
        loop = w;
        waiting = queue_long;
        oldest = queue-place;
        few = omega (arith, found-symbols p f);
      }
    where
      -- the oldest leave the ring
      leave : Bool
      leave = oldest_due p f

      queue_long : cond leave f.waiting (f.waiting + 1) ≡ min ((found_in p f).symbols + 1) p.delay
      queue_long = go leave refl
        where
          go : (b : Bool) → leave ≡ b → cond leave f.waiting (f.waiting + 1) ≡ min ((found_in p f).symbols + 1) p.delay
          go true e = let c = eqb-true f.waiting p.delay e in rw e (omega (arith, g.waiting, found-symbols p f))
          go false e = let c = eqb-false f.waiting p.delay e in rw e (omega (arith, g.waiting, found-symbols p f))

      queue-place : cond leave ((f.oldest + 1) % ring_places) f.oldest < ring_places
      queue-place = go leave refl
        where
          go : (b : Bool) → leave ≡ b → cond leave ((f.oldest + 1) % ring_places) f.oldest < ring_places
          go true e = rw e (omega arith)
          go false e = rw e g.oldest

  pub next-going : (f : Frontend) (x : Pair) → Going p f → Going p (next s f x)
  unfolding next joined
  next-going f x g = go (falls f) refl
    where
      j : Going p (joined s f x)
      j = joined-going f x g

      go : (b : Bool) → falls f ≡ b → Going p (next s f x)
      go true e = rw e (with-symbol-going (joined s f x) (ltb-true (time f) 16777216 (sym (ap (λ (z : ℤ). lt_z z one) g.whole) ∙ e)) j)
      go false e = rw e (without-symbol-going (joined s f x) (ltb-false (time f) 16777216 (sym (ap (λ (z : ℤ). lt_z z one) g.whole) ∙ e)) j)

  pub run-going : (f : Frontend) (xs : List Pair) → Going p f → Going p (after s f xs)
  unfolding after
  run-going f [] g = g
  run-going f (x ∷ xs) g = run-going (next s f x) xs (next-going f x g)
