-- The float steps from a design to its registers. Each operation is the kit's of f64, which rounds its exact result once, so the order of the operations is
-- part of the rule. (RULES 6.3; the order of the steps is that of `Params::design` in isdb-rs.)
use Rattle.std.specs.Prelude.{ℕ, false, cond, ℤ, pos, negsuc, Float}
use Rattle.std.specs.Float.{fin, binary64}
use Rattle.std.specs.Float.Ieee.{round, neg, mul, div, lt, to_unsigned, to_signed}
use Rattle.arith.specs.Arith.{wrap_i32}
use Rattle.floats.specs.Whole.{round_away}

-- ---- numbers

-- 2^k.
abbrev pub two_to : ℕ → Float
two_to k = fin false 1 (pos k)

-- The f64 nearest to n / 100, which is what a decimal of two places means.
unfoldable pub hundredths : ℕ → Float
hundredths n = round binary64 false n 100

-- 1.0625, which is 17 / 16: the fewest samples in a symbol.
abbrev pub least_sps : Float
least_sps = fin false 17 (negsuc 3)

-- ---- steps

-- The nominal period, in 2^24ths of a sample: rounded.
unfoldable pub period_nominal : Float → ℕ
period_nominal sps = to_unsigned 32 (round_away (mul binary64 sps (two_to 24)))

-- The larger of x and 1.0625; a NaN is not larger.
unfoldable pub at_least_min : Float → Float
at_least_min x = cond (lt least_sps x) x least_sps

-- The least period: two hundredths below the nominal one, but at least 1.0625 samples; cut.
unfoldable pub period_min : Float → ℕ
period_min sps = to_unsigned 32 (mul binary64 (at_least_min (mul binary64 sps (hundredths 98))) (two_to 24))

-- The largest period: two hundredths above the nominal one; cut.
unfoldable pub period_max : Float → ℕ
period_max sps = to_unsigned 32 (mul binary64 (mul binary64 sps (hundredths 102)) (two_to 24))

-- The furthest that the integrator moves the period: a hundredth of the nominal one; cut.
unfoldable pub integrator_max : Float → ℤ
integrator_max sps = to_signed 31 (mul binary64 (mul binary64 sps (hundredths 1)) (two_to 24))

-- What the mixer turns by for each sample, against the carrier's offset, in 2^32ths of a turn: rounded to 64 bits, and that modulo 2^32.
unfoldable pub nco_step : Float → Float → ℤ
nco_step offset rate = wrap_i32 (to_signed 63 (round_away (mul binary64 (div binary64 (neg offset) rate) (two_to 32))))

-- The power that the gain loop aims at, of a level that is given as a fraction of 2^15, in units of 2^12: rounded.
unfoldable pub agc_target : Float → ℕ
agc_target rms =
    let level : Float = mul binary64 rms (two_to 15) in
    to_unsigned 32 (round_away (div binary64 (mul binary64 level level) (two_to 12)))
