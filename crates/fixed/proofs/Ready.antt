-- What holds of a state that a sample can be pushed on: its time and its queue are within their bounds, a symbol that falls due changes the registers as one
-- step, and the state with the sample joined is such a state too.
use Rattle.std.proofs.Common.{◌≡◌, ◌<◌, ◌≤◌, Bool, true, false, cond, [], ◌∷◌, Option, Some, None, is_some, ℤ, sym, refl, ap, ◌∙◌, arith, ltb-true}
use lib.Signed.{lt_z}
use Rattle.params.specs.declared.Params.{Params}
use Rattle.params.specs.Judge.{Sheet}
use Rattle.params.proofs.Accepted.{Accepted, judged-none, no-faults}
use Rattle.registers.specs.declared.Pending.{Pending}
use Rattle.registers.specs.Step.{one, found, left, errors_of, after_symbol}
use Rattle.state.specs.declared.Pair.{Pair}
use Rattle.state.specs.declared.Frontend.{Frontend}
use Rattle.state.specs.Start.{ring_places}
use Rattle.state.proofs.Going.{time, Going, going, good}
use Rattle.fixed.specs.Queue.{oldest_due, oldest_errors}
use Rattle.fixed.specs.Sample.{found_in, joined, with_symbol, without_symbol, falls, symbol_of, next, made_by}
use Rattle.fixed.specs.Inside.{Ready}
use Rattle.fixed.proofs.States.{found-within, joined-going}
use Rattle.fixed.proofs.OneStep.{one_step}

module _ {s : Sheet} {f : Frontend} (ready : Ready s f) where
  abbrev p : Params
  p = s.params

  pub accepted : Accepted s
  accepted = no-faults s (judged-none s ready.accepted)

  pub ready-going : Going p f
  ready-going = going p f ready.good

  -- the ring has room for all that wait
  pub ring-holds : f.waiting ≤ ring_places
  ring-holds = omega (arith, ready-going.waiting, accepted.fields.delay-most)

  -- a symbol falls due within the sample
  pub soon : falls f ≡ true → time f < 16777216
  soon e = ltb-true (time f) 16777216 (sym (ap (λ (z : ℤ). lt_z z one) ready-going.whole) ∙ e)

  -- the step on the registers, as the code makes it
  pub step_is : falls f ≡ true → after_symbol p f.registers (oldest_due p f) (oldest_errors f) ≡ record { registers = left (found_in p f); made = true }
  unfolding with_symbol
  step_is e = one_step s f ready.good e (omega (arith, ready.room))

  -- the errors that are due, as the code hands them on
  abbrev pub due_errors : Option Pending
  due_errors = cond (oldest_due p f) (Some (oldest_errors f)) None

  pub stepped : falls f ≡ true → after_symbol p f.registers (is_some due_errors) (errors_of due_errors) ≡ record { registers = left (found_in p f); made = true }
  unfolding after_symbol found
  stepped e = go (oldest_due p f) refl
    where
      go : (b : Bool) → oldest_due p f ≡ b
          → after_symbol p f.registers (is_some due_errors) (errors_of due_errors) ≡ record { registers = left (found_in p f); made = true }
      go true d = simp d (rw d at (step_is e))
      go false d = simp d (rw d at (step_is e))

  -- the registers that it leaves have a gain of 16 bits
  pub step-gain : (left (found_in p f)).gain_acc ≤ 16777215
  unfolding left
  step-gain = (found-within s accepted f ready-going).gain

  -- with the sample joined
  pub ready-joined : (x : Pair) → Ready s (joined s f x)
  unfolding joined
  ready-joined x = record { accepted = ready.accepted; good = good p (joined s f x) (joined-going s accepted f x ready-going); room = ready.room }

-- ---- with a symbol or without

module _ (s : Sheet) (f : Frontend) (a : Pair) where
  pub falls-joined : falls (joined s f a) ≡ falls f
  unfolding joined
  falls-joined = refl

  pub next-with : falls f ≡ true → with_symbol s (joined s f a) ≡ next s f a
  unfolding next
  next-with e = ap (λ (b : Bool). cond b (with_symbol s (joined s f a)) (without_symbol (joined s f a))) (sym e)

  pub next-without : falls f ≡ false → without_symbol (joined s f a) ≡ next s f a
  unfolding next
  next-without e = ap (λ (b : Bool). cond b (with_symbol s (joined s f a)) (without_symbol (joined s f a))) (sym e)

  pub made-with : falls f ≡ true → symbol_of s (joined s f a) ∷ [] ≡ made_by s f a
  unfolding made_by
  made-with e = ap (λ (b : Bool). cond b (symbol_of s (joined s f a) ∷ []) []) (sym e)

  pub made-without : falls f ≡ false → [] ≡ made_by s f a
  unfolding made_by
  made-without e = ap (λ (b : Bool). cond b (symbol_of s (joined s f a) ∷ []) []) (sym e)
