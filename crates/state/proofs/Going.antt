-- States that a block can go on from: what refusal 9 tests, as facts. Each test of the definition is one fact, and the facts give the tests back.
use Prim.Native.Nat.{ℕ, ◌-◌, ◌≤◌, ◌<◌, min}
use mathlib.Core.Path.{◌≡◌, ap, ◌∙◌}
use mathlib.Core.Bool.{true, ◌&&◌, and_assoc}
use native.Mathlib.Omega.{arith}
use Rattle.std.proofs.lemmas.Int.{ints}
use lib.Dec.{eqb, ltb, leb}
use lib.IntN.{ℤ, pos, neg_ℤ, nat_abs, ◌-ℤ◌}
use lib.Signed.{le_z, lt_z}
use borrow.Author.Tests.{lt-ltb, le-leb, eq-eqb}
use Rattle.params.specs.declared.Params.{Params}
use Rattle.arith.specs.Arith.{within}
use Rattle.arith.proofs.Both.{and_both}
use Rattle.registers.specs.declared.Registers.{Registers}
use Rattle.registers.specs.Correct.{integrator_end}
use Rattle.registers.proofs.Loops.{loop_of, Within}
use Rattle.state.specs.declared.Frontend.{Frontend}
use Rattle.state.specs.Start.{ring_places}
use Rattle.state.specs.Check.{good_state}

-- ---- the time to the next symbol, in 2^24ths of a sample

abbrev pub time : Frontend → ℕ
time f = nat_abs f.registers.t_acc

-- a difference of naturals that is not below zero
pub minus-nat : (a b : ℕ) → b ≤ a → pos a -ℤ pos b ≡ pos (a - b)
minus-nat a b h = grind (arith, ints)

-- the test of a state, with those of its registers and of its counts each in one
pub good_parts : (p : Params) (f : Frontend)
    → let r : Registers = f.registers in
    good_state p f
    ≡ (ltb f.head p.taps
    && (le_z (pos 0) r.t_acc && lt_z r.t_acc (pos 67108864) && within (neg_ℤ (integrator_end p)) (integrator_end p) r.v
    && leb p.period_min r.period && leb r.period p.period_max && leb r.gain_acc 16777215)
    && (eqb f.waiting (min r.symbols p.delay) && ltb f.oldest ring_places && leb r.symbols f.samples))
unfolding good_state
good_parts p f = simp and_assoc

-- ---- refusal 9's tests as facts

pub record Going (p : Params) (f : Frontend) : Type 0 where
  pub head : f.head < p.taps
  pub whole : f.registers.t_acc ≡ pos (time f)
  pub soon : time f < 67108864
  pub loop : Within p (loop_of f.registers)
  pub waiting : f.waiting ≡ min f.registers.symbols p.delay
  pub oldest : f.oldest < ring_places
  pub few : f.registers.symbols ≤ f.samples

-- a number that is not below zero
not-below : (z : ℤ) → le_z (pos 0) z ≡ true → z ≡ pos (nat_abs z)
not-below z e = grind arith

pub going : (p : Params) (f : Frontend) → good_state p f ≡ true → Going p f
unfolding good_state
going p f e =
    let whole : f.registers.t_acc ≡ pos (time f) = grind (arith, not-below) in
    record {
      head = grind arith;
      whole = whole;
      soon = grind arith;
      loop = record { v = record { low = grind arith; high = grind arith }; low = grind arith; high = grind arith; gain = grind arith };
      waiting = grind arith;
      oldest = grind arith;
      few = grind arith;
    }

pub good : (p : Params) (f : Frontend) → Going p f → good_state p f ≡ true
unfolding good_state
good p f g =
    let t = time f in
    and_both (and_both (and_both (and_both (and_both (and_both (and_both (and_both (and_both
    (lt-ltb f.head p.taps g.head)
    (ap (le_z (pos 0)) g.whole ∙ le-leb 0 t (omega arith)))
    (ap (λ (z : ℤ). lt_z z (pos 67108864)) g.whole ∙ lt-ltb t 67108864 g.soon))
    (and_both g.loop.v.low g.loop.v.high))
    (le-leb _ _ g.loop.low))
    (le-leb _ _ g.loop.high))
    (le-leb _ _ g.loop.gain))
    (eq-eqb f.waiting (min f.registers.symbols p.delay) g.waiting))
    (lt-ltb f.oldest ring_places g.oldest))
    (le-leb f.registers.symbols f.samples g.few)
