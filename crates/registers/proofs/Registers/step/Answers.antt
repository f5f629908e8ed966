-- `registers::Registers::step` meets what its calls require: the test that it makes bounds time, integrator and count.
-- The errors that are due move neither time nor count.
use Prim.Native.Nat.{◌≤◌, ◌<◌}
use mathlib.Core.Path.{◌≡◌, refl, sym, ◌∙◌}
use mathlib.Core.Bool.{Bool, true, false}
use native.Mathlib.Omega.{arith}
use lib.IntN.{ℤ, pos, negsuc, nat_abs}
use lib.Signed.{le_z, lt_z}
use mir.Syntax.{w32}
use mir.Val.{SFits}
use Rattle.arith.proofs.Order.{lt-pn, le-pn}
use Rattle.params.specs.declared.Params.{Params}
use Rattle.arith.proofs.Tested.{between-abs}
use Rattle.registers.specs.declared.Pending.{Pending}
use Rattle.registers.specs.declared.Registers.{Registers}
use Rattle.registers.specs.Correct.{integrator_end, corrected}
use Rattle.registers.specs.Step.{one, can_make_symbol, found}
use Rattle.registers.proofs.Integrator.{end-abs}
use Rattle.registers.proofs.Registers.step.Goals as goal

-- ---- what the test tells

soon-abs : (t : ℤ) → le_z (pos 0) t ≡ true → lt_z t one ≡ true → nat_abs t < 16777216
soon-abs (pos n) low high = omega (arith, lt-pn (pos n) one high)
soon-abs (negsuc n) low high = omega (arith, le-pn (pos 0) (negsuc n) low)

record CanMake (p : Params) (r : Registers) : Type 0 where
  soon : nat_abs r.t_acc < 16777216
  within : nat_abs r.v ≤ nat_abs (integrator_end p)
  room : r.symbols < 18446744073709551615

tells : (p : Params) (r : Registers) → can_make_symbol p r ≡ true → CanMake p r
unfolding can_make_symbol
tells p r e =
    record { soon = grind (arith, soon-abs); within = grind (arith, between-abs); room = grind arith }

-- ---- the errors move neither time nor count

found-time : (p : Params) (r : Registers) (due : Bool) (w : Pending) → (found p r due w).t_acc ≡ r.t_acc
unfolding found corrected
found-time p r true w = refl
found-time p r false w = refl

found-count : (p : Params) (r : Registers) (due : Bool) (w : Pending) → (found p r due w).symbols ≡ r.symbols
unfolding found corrected
found-count p r true w = refl
found-count p r false w = refl

-- ---- the calls

pub apply-requires : goal.apply-requires
apply-requires c =
    let most : SFits w32 c.args.p.integrator_max = record { sfits = search c.well_formed depth 40 } in
    let told = tells c.args.p c.args.self.now (sym c.can_make_symbol.ensures ∙ c.if-not-can_make_symbol.false) in
    omega (arith, told.within, end-abs most)

pub leave-requires : goal.leave-requires
leave-requires c =
    let told = tells c.args.p c.args.self.now (sym c.can_make_symbol.ensures ∙ c.if-not-can_make_symbol.false) in
    grind (arith, found-time, found-count, told)
