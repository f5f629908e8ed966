-- `registers::correct::next_period` meets its contract: an unsigned number of 32 bits, an integrator shifted right by 16 places and an error of at most 2^46
-- add up within 64 bits. A clamp between two unsigned numbers of 32 bits is one, so the cast loses nothing.
use Prim.Native.Nat.{◌^◌, ◌<◌}
use mathlib.Core.Path.{◌≡◌, ap}
use native.Mathlib.Omega.{arith}
use lib.IntN.{ℤ, pos, nat_abs, ◌+ℤ◌, ◌*ℤ◌}
use lib.Signed.{shr_z}
use mir.Syntax.{w16, w32, w64}
use mir.Val.{Fits, SFits}
use mir.Facts.{to_z-of_z}
use Rattle.arith.specs.Arith.{round_shift, clamp_z}
use Rattle.arith.proofs.Magnitude.{abs-add, abs-shr-pow}
use Rattle.arith.proofs.Bits.{sfit, fit-abs, back, held, whole, shr-fits}
use Rattle.arith.proofs.Widths.{in64, clamp-unsigned}
use Rattle.registers.specs.Correct.{next_period}
use Rattle.registers.proofs.Integrator.{scaled-abs}
use Rattle.registers.proofs.correct.next_period.Goals as goal
use Rattle.registers.proofs.correct.next_period.Goals.{After-scaled}

module _ (c : goal.After-scaled) where
  -- the nominal period with the integrator, and the error
  abbrev base : ℤ
  base = pos c.args.p.period_nominal +ℤ shr_z c.args.v 65536

  abbrev moved : ℤ
  moved = round_shift (c.args.p.kp *ℤ c.args.e) c.args.p.kp_shift

  nominal-fits : Fits w32 c.args.p.period_nominal
  nominal-fits = search c depth 40

  kp-fits : SFits w16 c.args.p.kp
  kp-fits = record { sfits = search c depth 40 }

  base-abs : nat_abs base < 2 ^ 62
  base-abs =
      omega (arith, nominal-fits.fits, fit-abs c.ranges.v, abs-add (pos c.args.p.period_nominal) (shr_z c.args.v 65536), abs-shr-pow c.args.v 16)

  -- what the code holds of both
  base-is : in64 (in64 c.from.result +ℤ in64 (shr_z (in64 c.args.v) 65536)) ≡ base
  base-is =
      simp (whole c.args.p.period_nominal c.from.ensures nominal-fits, to_z-of_z c.ranges.v, to_z-of_z (shr-fits 65536 c.ranges.v)) (back w64 base (omega (arith, base-abs)))

  scaled-is : c.scaled.result ≡ moved
  scaled-is = simp (to_z-of_z kp-fits, to_z-of_z c.ranges.e) at c.scaled.ensures

  sum-abs : nat_abs (base +ℤ c.scaled.result) < 2 ^ 63
  sum-abs = rw scaled-is (omega (arith, base-abs, abs-add base moved, scaled-abs c.args.p.kp_shift kp-fits c.ranges.e))

pub overflow_add-base-2 : goal.overflow_add-base-2
overflow_add-base-2 c = simp (base-is c, held w64 c.scaled.result c.scaled.type_inv) (sfit (sum-abs c))

min-fits : (c : goal.After-clamp) → Fits w32 c.args.p.period_min
min-fits c = search c depth 40

max-fits : (c : goal.After-clamp) → Fits w32 c.args.p.period_max
max-fits c = search c depth 40

-- what `clamp` answers
clamped : (c : goal.After-clamp)
    → let p = c.args.p in
    in64 c.clamp.result
    ≡ clamp_z (pos p.period_nominal +ℤ shr_z c.args.v 65536 +ℤ round_shift (p.kp *ℤ c.args.e) p.kp_shift) (pos p.period_min) (pos p.period_max)
clamped c =
    let a = (goal.at.returns c).After-scaled in
    let low = whole c.args.p.period_min c.from-2.ensures (min-fits c) in
    let high = whole c.args.p.period_max c.from-3.ensures (max-fits c) in
    let ends = simp (base-is a, held w64 c.scaled.result c.scaled.type_inv, low, high) at c.clamp.ensures in
    let told : c.clamp.result ≡ _ = simp (back w64 (base a +ℤ c.scaled.result) (sum-abs a)) at ends in
    simp (held w64 c.clamp.result c.clamp.type_inv) (simp (scaled-is a) at told)

pub overflow_cast-result : goal.overflow_cast-result
overflow_cast-result c = rw (clamped c) (clamp-unsigned _ _ _ (min-fits c) (max-fits c))

pub returns : goal.returns
unfolding next_period
returns c = ap nat_abs (clamped c)
