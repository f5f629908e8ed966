-- `fixed::sample::Running::make_symbol` meets its contract: the registers step as the state's do, and the symbol is made of what they then hold.
-- What it does to registers and queue is what the definition does to the state that the block stands for.
use Rattle.std.proofs.Common.{slice_set, Option, is_some, ◌≡◌, ℕ, ◌+◌, ◌/◌, ◌%◌, ◌<◌, true, T, List, ℤ, pos, nat_abs, sym, ap, ◌∙◌, subst, arith, w32, w64, Fits, rules}
use lib.Signed.{non_neg, shr_z}
use Rattle.arith.proofs.Bits.{back, held}
use Rattle.arith.proofs.Widths.{in64}
use Rattle.params.specs.Judge.{Sheet}
use Rattle.registers.specs.declared.Registers.{Registers}
use Rattle.registers.specs.declared.Pending.{Pending}
use Rattle.registers.specs.Step.{left, AfterSymbol, after_symbol, errors_of}
use Rattle.symbol.specs.declared.Sums.{Sums}
use Rattle.symbol.specs.declared.Symbol.{Symbol}
use Rattle.symbol.specs.Make.{symbol_from}
use Rattle.state.specs.declared.Frontend.{Frontend}
use Rattle.state.specs.Start.{ring_places}
use Rattle.fixed.specs.Filter.{filtered}
use Rattle.fixed.specs.Sample.{found_in, falls, symbol_of, with_symbol}
use Rattle.fixed.specs.Inside.{Ready}
use Rattle.fixed.proofs.Ready.{ready-going, ring-holds, soon, stepped, step-gain}
use Rattle.fixed.proofs.sample.Running.make_symbol.Goals as goal

-- ---- the phase, in 64 bits

phase-is : (t : ℤ) (n : ℕ) → t ≡ pos n → n < 16777216 → in64 (shr_z (in64 t) 262144) ≡ pos (n / 262144)
phase-is t n e h = rw e (simp (back w64 (pos n) (omega arith)) (back w64 (pos (n / 262144)) (omega arith)))

module _ {s : Sheet} {f : Frontend} (ready : Ready s f) (falling : falls f ≡ true) where
  abbrev time : ℤ
  time = in64 (shr_z (in64 f.registers.t_acc) 262144)

  time-is : time ≡ pos (nat_abs f.registers.t_acc / 262144)
  time-is = phase-is f.registers.t_acc _ (ready-going ready).whole (soon ready falling)

  phase-at : nat_abs time ≡ nat_abs f.registers.t_acc / 262144
  phase-at = ap nat_abs time-is

  phase-below : nat_abs time < 64
  phase-below = omega (arith, phase-at, soon ready falling)

  phase-fits : T (non_neg time) × Fits w64 (nat_abs time)
  phase-fits = subst (λ (z : ℤ). T (non_neg z) × Fits w64 (nat_abs z)) (sym time-is) (tt, record { fits = omega (arith, soon ready falling) })

  -- a symbol of the gain and the period that the registers then have is the definition's
  symbol-made : {r : Registers} {gain : ℕ} {sums : List Sums} → r ≡ left (found_in s.params f) → gain ≡ r.gain_acc / 256 % 65536
      → sums ≡ filtered s (nat_abs time) f.line f.head
      → symbol_from s.params gain r.period f.samples (nat_abs time) sums ≡ symbol_of s f
  unfolding symbol_of left
  symbol-made {r} e g sums =
      let small : (left (found_in s.params f)).gain_acc / 256 % 65536 ≡ (left (found_in s.params f)).gain_acc / 256 = omega (arith, step-gain ready) in
      let gain = g ∙ ap (λ (r : Registers). r.gain_acc / 256 % 65536) e ∙ small in
      let of_rows = sums ∙ ap (λ (n : ℕ). filtered s n f.line f.head) phase-at in
      λ t. symbol_from s.params (gain t) (e t).period f.samples (phase-at t) (of_rows t)

pub overflow_cast-phase : goal.overflow_cast-phase
overflow_cast-phase c = phase-fits c.requires.ready c.requires.falls

pub due-due-requires : goal.due-due-requires
due-due-requires c = (ready-going c.requires.ready).oldest

pub sums_at-sums-requires-clause-bounds : goal.sums_at-sums-requires-clause-bounds
sums_at-sums-requires-clause-bounds c = ((ready-going c.requires.ready).head, phase-below c.requires.ready c.requires.falls)

pub overflow_cast-phase-2 : goal.overflow_cast-phase-2
overflow_cast-phase-2 c = let h = phase-below c.requires.ready c.requires.falls in record { fits = omega arith }

pub join-requires : goal.join-requires
join-requires c = ((ready-going c.requires.ready).oldest, ring-holds c.requires.ready)

pub returns-clause-symbol : goal.returns-clause-symbol
returns-clause-symbol c =
    let ready = rw (sym c.sheet.view_is) at c.requires.ready in
    let falling = c.requires.falls in
    let p = c.sheet.inside.params in
    let r = c.args.self.now.registers in
    let sums = rw (sym c.sheet.view_is) at c.sums_at-sums.ensures in
    let step = c.step.ensures ∙ ap (λ (d : Option Pending). after_symbol p r (is_some d) (errors_of d)) c.due-due.ensures ∙ stepped ready falling in
    rw (sym c.sheet.view_is)
    (c.make-symbol.ensures ∙ symbol-made ready falling (ap (λ (z : AfterSymbol). z.registers) step) c.gain.ensures sums)

pub returns-clause-state : goal.returns-clause-state
unfolding with_symbol
returns-clause-state c =
    let ready = rw (sym c.sheet.view_is) at c.requires.ready in
    let falling = c.requires.falls in
    let p = c.sheet.inside.params in
    let x = c.args.self.now in
    let r = x.registers in
    let places = c.args.rings.now.pending in
    let sums = rw (sym c.sheet.view_is) at c.sums_at-sums.ensures in
    let step = c.step.ensures ∙ ap (λ (d : Option Pending). after_symbol p r (is_some d) (errors_of d)) c.due-due.ensures ∙ stepped ready falling in
    let symbol = c.make-symbol.ensures ∙ symbol-made ready falling (ap (λ (z : AfterSymbol). z.registers) step) c.gain.ensures sums in
    let ring = simp (held w32 c.make-symbol.result.e (search rules), held w32 c.make-symbol.result.err (search rules)) at c.join.ensures.ring in
    let queue = c.join.ensures.positions in
    rw (sym c.sheet.view_is) (λ t. record {
      params = p;
      registers = (step t).registers;
      line = c.args.rings.now.line;
      head = x.head;
      pending = (ring ∙ ap (λ (y : Symbol). slice_set places ((x.queue.oldest + x.queue.waiting) % ring_places) (record { e = y.e; err = y.err })) symbol) t;
      oldest = (queue t).oldest;
      waiting = (queue t).waiting;
      samples = x.samples + 1;
    })
