-- What a symbol is made of: the filters' outputs, the same times the gain, the quantised components, the errors, and how often the signal was clipped.
-- (RULES 3.8, 3.9)
use Rattle.std.specs.Prelude.{ℕ, ◌+◌, ◌-◌, ◌^◌, cond, List, get_or, ℤ, pos, negsuc, neg_ℤ, ◌+ℤ◌, ◌-ℤ◌, ◌*ℤ◌}
use Rattle.std.specs.Int.Signed.{shr_z}
use Rattle.arith.specs.Arith.{round_shift, clamp_z, sat16_z, sat16_changes, wrap_i32}
use Rattle.params.specs.declared.Params.{Params}
use Rattle.symbol.specs.declared.Output.{Output}
use Rattle.symbol.specs.declared.Sums.{Sums}
use Rattle.symbol.specs.declared.Symbol.{Symbol}
use Rattle.symbol.specs.declared.make.Fitted.{Fitted}

-- One for a number that 16 bits do not hold, so that it is clipped.
abbrev clip_of : ℤ → ℕ
clip_of v = cond (sat16_changes v) 1 0

-- Two numbers as an output, each within 16 bits, and how many of the two were clipped.
abbrev pub fitted : ℤ → ℤ → Fitted
fitted i q = record { output = record { i = sat16_z i; q = sat16_z q }; clips = clip_of i + clip_of q }

-- A filter's sums as an output: without their 14 fractional bits, within 16 bits.
unfoldable pub output_of : Sums → Fitted
output_of x = fitted (round_shift x.i 14) (round_shift x.q 14)

-- An output times the gain, which has 10 fractional bits, within 16 bits.
unfoldable pub amplified : ℕ → Output → Fitted
amplified gain x = fitted (round_shift (x.i *ℤ pos gain) 10) (round_shift (x.q *ℤ pos gain) 10)

-- An amplified output at the width of the output components.
unfoldable pub quantised : Params → ℤ → ℤ
quantised p v = clamp_z (round_shift v p.q_shift) (neg_ℤ (pos (2 ^ (p.bits - 1)))) (pos (2 ^ (p.bits - 1) - 1))

-- The timing error: the product of output and derivative, over both components.
unfoldable pub timing_error : Params → Output → Output → ℤ
timing_error p z dz = clamp_z (shr_z (z.i *ℤ dz.i +ℤ z.q *ℤ dz.q) (2 ^ p.ted_shift)) (negsuc 8388606) (pos 8388607)

-- The gain error: what the power of the output lacks, within 32 bits signed.
unfoldable pub gain_error : Params → Output → ℤ
gain_error p zk = wrap_i32 (pos p.agc_target -ℤ shr_z (zk.i *ℤ zk.i +ℤ zk.q *ℤ zk.q) 4096)

-- The symbol: the gain and the period in force, the samples before its own, its phase, and the sums of h, g and k, from which y, dy and yk come. Its clips are
-- those of the three outputs, and those of the three times the gain; what clamps q and e counts for nothing.
unfoldable pub symbol_from : Params → ℕ → ℕ → ℕ → ℕ → List Sums → Symbol
symbol_from p gain period sample phase sums =
    let none : Sums = record { i = pos 0; q = pos 0 } in
    let y : Fitted = output_of (get_or sums 0 none) in
    let dy : Fitted = output_of (get_or sums 1 none) in
    let yk : Fitted = output_of (get_or sums 2 none) in
    let z : Fitted = amplified gain y.output in
    let dz : Fitted = amplified gain dy.output in
    let zk : Fitted = amplified gain yk.output in
    record {
      sample = sample;
      phase = phase;
      y = y.output;
      dy = dy.output;
      yk = yk.output;
      gain = gain;
      period = period;
      z = z.output;
      dz = dz.output;
      zk = zk.output;
      q = record { i = quantised p zk.output.i; q = quantised p zk.output.q };
      e = timing_error p z.output dz.output;
      err = gain_error p zk.output;
      clips = y.clips + dy.clips + yk.clips + z.clips + dz.clips + zk.clips;
    }
