-- The loop's registers: its integrator, period and gain, as errors move them. Each of the three stays within its clamp, since every step ends in it.
use Prim.Native.Nat.{ℕ, ◌*◌, ◌≤◌}
use mathlib.Core.Path.{◌≡◌, refl}
use mathlib.Core.Bool.{true}
use native.Mathlib.Omega.{arith}
use lib.IntN.{ℤ, pos, neg_ℤ}
use lib.Signed.{le_z}
use Rattle.arith.proofs.Order.{Between, clamp-between, between-nat, neg-pos_part, neg-neg_part, pn-le}
use Rattle.params.specs.declared.Params.{Params}
use Rattle.params.proofs.Accepted.{GoodPeriods, GoodFields}
use Rattle.registers.specs.declared.Pending.{Pending}
use Rattle.registers.specs.declared.Registers.{Registers}
use Rattle.registers.specs.Correct.{clamp_n, integrator_end, next_v, next_period, next_gain, corrected}

-- ---- the three registers that errors move

pub record Loop : Type 0 where
  pub v : ℤ
  pub period : ℕ
  pub gain : ℕ

abbrev pub loop_of : Registers → Loop
loop_of r = record { v = r.v; period = r.period; gain = r.gain_acc }

unfoldable pub moved : Params → Loop → Pending → Loop
moved p l w = record { v = next_v p l.v w.e; period = next_period p (next_v p l.v w.e) w.e; gain = next_gain p l.gain w.err }

pub corrected-moves : (p : Params) (r : Registers) (w : Pending) → loop_of (corrected p r w) ≡ moved p (loop_of r) w
unfolding corrected moved
corrected-moves p r w = refl

-- ---- they stay within their clamps

pub record Within (p : Params) (l : Loop) : Type 0 where
  pub v : Between (neg_ℤ (integrator_end p)) (integrator_end p) l.v
  pub low : p.period_min ≤ l.period
  pub high : l.period ≤ p.period_max
  pub gain : l.gain ≤ 16777215

module _ (p : Params) (k : GoodPeriods p) (f : GoodFields p) where
  -- the integrator's end is not below zero
  pub end_whole : (n : ℕ) → p.integrator_max ≡ pos n
      → Between (neg_ℤ (integrator_end p)) (integrator_end p) (pos 0) × (le_z (neg_ℤ (integrator_end p)) (integrator_end p) ≡ true)
  end_whole n e =
      let top : ℤ = pos (n * 65536) in
      let neg = neg_ℤ top in
      rw e (
        record { low = pn-le neg (pos 0) (omega (arith, neg-pos_part top, neg-neg_part top)); high = pn-le (pos 0) top (omega arith) },
        pn-le neg top (omega (arith, neg-pos_part top, neg-neg_part top)),
      )

  clamp_n-within : (z : ℤ) (lo hi : ℕ) → lo ≤ hi → (lo ≤ clamp_n z lo hi) × (clamp_n z lo hi ≤ hi)
  clamp_n-within z lo hi h = between-nat lo hi _ (clamp-between z (pos lo) (pos hi) (pn-le (pos lo) (pos hi) (omega arith)))

  pub moved-within : (l : Loop) (w : Pending) → Within p (moved p l w)
  unfolding moved next_v next_period next_gain
  moved-within l w =
      let period = clamp_n-within _ p.period_min p.period_max (omega arith) in
      record {
        v = clamp-between _ _ _ (end_whole f.integrator.0 f.integrator.1).1;
        low = period.0;
        high = period.1;
        gain = (clamp_n-within _ 0 16777215 (omega arith)).1;
      }
