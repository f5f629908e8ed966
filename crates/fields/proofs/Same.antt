-- Sheets that the test finds the same are equal, and equal ones pass it. Each of its 18 parts is an equation of one field, and a sheet is its fields.
use Prim.Native.Nat.{ℕ}
use mathlib.Core.Path.{◌≡◌, refl}
use mathlib.Core.Bool.{true}
use native.Mathlib.Omega.{arith}
use Rattle.std.proofs.lemmas.Int.{ints}
use lib.Dec.{eqb}
use lib.IntN.{ℤ}
use mir.Syntax.{Width}
use mir.Val.{SFits, of_z}
use Rattle.arith.proofs.Tested.{differ}
use borrow.Author.Tests.{eqb-true, eq-eqb}
use Rattle.arith.proofs.Both.{and_both}
use Rattle.params.specs.declared.Params.{Params}
use Rattle.fields.specs.Fields.{same_z, same_fields}

-- ---- signed numbers

one_number : (a b : ℤ) → same_z a b ≡ true → a ≡ b
one_number a b e = grind (arith, ints)

its_own : (a : ℤ) → same_z a a ≡ true
its_own a = grind (arith, ints)

-- numbers that fit are the same where their bits are
pub same_bits : {w : Width} (a b : ℤ) → SFits w a → SFits w b → eqb (of_z w a) (of_z w b) ≡ same_z a b
same_bits {w} a b f g = grind (arith, differ a b f g)

-- ---- sheets

pub equal-sheets : (p q : Params) → same_fields p q ≡ true → p ≡ q
unfolding same_fields
equal-sheets p q e =
    λ i. record {
      taps = eqb-true p.taps q.taps (grind arith) i;
      nco_step = one_number p.nco_step q.nco_step (grind arith) i;
      period_nominal = eqb-true p.period_nominal q.period_nominal (grind arith) i;
      period_min = eqb-true p.period_min q.period_min (grind arith) i;
      period_max = eqb-true p.period_max q.period_max (grind arith) i;
      ted_shift = eqb-true p.ted_shift q.ted_shift (grind arith) i;
      kp = one_number p.kp q.kp (grind arith) i;
      kp_shift = eqb-true p.kp_shift q.kp_shift (grind arith) i;
      ki = one_number p.ki q.ki (grind arith) i;
      ki_shift = eqb-true p.ki_shift q.ki_shift (grind arith) i;
      integrator_max = one_number p.integrator_max q.integrator_max (grind arith) i;
      agc_init = eqb-true p.agc_init q.agc_init (grind arith) i;
      agc_target = eqb-true p.agc_target q.agc_target (grind arith) i;
      agc_shift = eqb-true p.agc_shift q.agc_shift (grind arith) i;
      bits = eqb-true p.bits q.bits (grind arith) i;
      q_shift = eqb-true p.q_shift q.q_shift (grind arith) i;
      block_log2 = eqb-true p.block_log2 q.block_log2 (grind arith) i;
      delay = eqb-true p.delay q.delay (grind arith) i;
    }

same_number : (n : ℕ) → eqb n n ≡ true
same_number n = eq-eqb n n refl

pub same-sheet : (p : Params) → same_fields p p ≡ true
unfolding same_fields
same-sheet p = search (and_both, its_own, same_number) depth 40
