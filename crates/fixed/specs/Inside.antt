-- What the functions inside a block promise one another. Nothing of it shows outside: a block is given a state and hands one back (Block.antt).
use Rattle.std.specs.Prelude.{◌≡◌, Option, Some, None, ℕ, ◌+◌, ◌*◌, ◌^◌, ◌<◌, ◌≤◌, true, List, [], ◌∷◌, ◌++◌, length, drop, ℤ, pos, ◌+ℤ◌, ◌-ℤ◌, ◌*ℤ◌, slice_index, slice_index_or, unsigned_abs}
use Rattle.params.specs.declared.Params.{Params}
use Rattle.params.specs.Refusal.{nothing}
use Rattle.params.specs.Judge.{Sheet, judged}
use Rattle.symbol.specs.declared.Sums.{Sums}
use Rattle.symbol.specs.declared.Symbol.{Symbol}
use Rattle.state.specs.declared.Pair.{Pair}
use Rattle.state.specs.declared.Frontend.{Frontend}
use Rattle.state.specs.Check.{good_state}
use Rattle.fixed.specs.declared.filter.Detected.{Detected}
use Rattle.fixed.specs.declared.filter.Raised.{Raised}
use Rattle.fixed.specs.declared.filter.Summed.{Summed}
use Rattle.fixed.specs.declared.sample.Rings.{Rings}
use Rattle.fixed.specs.declared.sample.Running.{Running}
use Rattle.fixed.specs.Raised.{lowered, In32}
use Rattle.fixed.specs.Rows.{ThreeRows}
use Rattle.fixed.specs.Filter.{sum_to}
use Rattle.fixed.specs.TwoRuns.{run_sums, together}
use Rattle.fixed.specs.Block.{flattened, clips_of}

-- ---- the filter

-- A row's sum over as many numbers of the line.
unfoldable pub sum_over : List ℤ → List ℕ → ℤ
sum_over row kept = sum_to (λ n. slice_index_or row n (pos 0) *ℤ lowered (slice_index kept n)) (length row)

unfoldable pub sums_over : List ℤ → List ℕ → List ℕ → Sums
sums_over row i q = record { i = sum_over row i; q = sum_over row q }

-- n numbers of each component of the line, below 2^32.
pub record Beside (n : ℕ) (i q : List ℕ) : Type 0 where
  pub long-i : length i ≡ n
  pub long-q : length q ≡ n
  pub small-i : In32 n i
  pub small-q : In32 n q

-- Sums of a row's raised coefficients over raised numbers, without what the raising has added: 2^17 times the numbers' sum and 2^31 times the coefficients'.
abbrev pub unraised : ℕ → ℕ → ℤ → ℤ
unraised raised numbers coefficients = pos raised -ℤ pos numbers *ℤ pos 131072 -ℤ coefficients *ℤ pos 2147483648

abbrev pub unraised_sums : Raised → Sums
unraised_sums s = record { i = unraised s.i s.line_i s.coefficients; q = unraised s.q s.line_q s.coefficients }

-- No larger than the sums of n taps can be.
pub record SumsUpto (n : ℕ) (s : Sums) : Type 0 where
  pub i : unsigned_abs s.i ≤ n * 2 ^ 48
  pub q : unsigned_abs s.q ≤ n * 2 ^ 48

pub record DetectedUpto (n : ℕ) (s : Detected) : Type 0 where
  pub h : SumsUpto n s.h
  pub g : SumsUpto n s.g

pub record RaisedUpto (n : ℕ) (s : Raised) : Type 0 where
  pub i : s.i ≤ n * 2 ^ 50
  pub q : s.q ≤ n * 2 ^ 50
  pub coefficients : unsigned_abs s.coefficients ≤ n * 2 ^ 17
  pub line-i : s.line_i ≤ n * 2 ^ 32
  pub line-q : s.line_q ≤ n * 2 ^ 32

pub record SummedUpto (n : ℕ) (s : Summed) : Type 0 where
  pub detected : DetectedUpto n s.detected
  pub output : RaisedUpto n s.output

-- The sums before the first run.
abbrev pub no_sums : Sums
no_sums = record { i = pos 0; q = pos 0 }

abbrev pub none_summed : Summed
none_summed = record {
  detected = record { h = no_sums; g = no_sums };
  output = record { i = 0; q = 0; coefficients = pos 0; line_i = 0; line_q = 0 };
}

-- The sums of a row of k with one tap more: a coefficient, and the two numbers of the line that it meets.
abbrev pub one_tap_more : Raised → ℤ → ℕ → ℕ → Raised
one_tap_more s c x y = record {
  i = s.i + unsigned_abs (c +ℤ pos 131072) * x;
  q = s.q + unsigned_abs (c +ℤ pos 131072) * y;
  coefficients = s.coefficients +ℤ c;
  line_i = s.line_i + x;
  line_q = s.line_q + y;
}

-- A run's part of h and g adds its sums to those before it, and no more to their size than its taps can.
pub record Detects (h g : List ℤ) (i q : List ℕ) (before after : Detected) : Type 0 where
  pub of-h : after.h ≡ together before.h (sums_over h i q)
  pub of-g : after.g ≡ together before.g (sums_over g i q)
  pub few : (n : ℕ) → DetectedUpto n before → DetectedUpto (n + length h) after

-- And its part of k.
pub record Outputs (k : List ℤ) (i q : List ℕ) (before after : Raised) : Type 0 where
  pub of-k : unraised_sums after ≡ together (unraised_sums before) (sums_over k i q)
  pub few : (n : ℕ) → RaisedUpto n before → RaisedUpto (n + length k) after

-- A run over the line (TwoRuns.antt) adds the three banks' sums over its own coefficients and places to those before it, and no more to their size than its
-- taps can. (A block's run, below, is another thing.)
pub record RunAdds (rows : ThreeRows) (line : List Pair) (from place count : ℕ) (before after : Summed) : Type 0 where
  pub of-h : after.detected.h ≡ together before.detected.h (run_sums rows.h line from place count)
  pub of-g : after.detected.g ≡ together before.detected.g (run_sums rows.g line from place count)
  pub of-k : unraised_sums after.output ≡ together (unraised_sums before.output) (run_sums rows.k line from place count)
  pub few : (n : ℕ) → SummedUpto n before → SummedUpto (n + count) after

-- ---- a block while it runs

-- A state, taken apart: its rings, and its numbers but for the sheet's.
abbrev pub rings_of : Frontend → Rings
rings_of f = record { line = f.line; pending = f.pending }

abbrev pub running_of : Frontend → Running
running_of f = record { registers = f.registers; head = f.head; queue = record { oldest = f.oldest; waiting = f.waiting }; samples = f.samples }

-- And put together, under a sheet of these fields: the state that a running block stands for.
abbrev pub frontend_of : Params → Running → Rings → Frontend
frontend_of p x rings = record {
  params = p;
  registers = x.registers;
  line = rings.line;
  head = x.head;
  pending = rings.pending;
  oldest = x.queue.oldest;
  waiting = x.queue.waiting;
  samples = x.samples;
}

-- A sheet that is accepted, and a state that a sample can be pushed on: good under the sheet, with room for a sample more.
pub record Ready (s : Sheet) (f : Frontend) : Type 0 where
  pub accepted : judged s ≡ nothing
  pub good : good_state s.params f ≡ true
  pub room : f.samples < 9223372036854775807

-- The symbol that a sample made, as a list, or none.
abbrev pub made : Option Symbol → List Symbol
made None = []
made (Some y) = y ∷ []

-- What a block has written: how many symbols, the clips of these, and what the output then holds.
pub record Writes (ys : List Symbol) (out₀ out : List ℤ) (count clips : ℕ) : Type 0 where
  pub counted : count ≡ length ys
  pub clipped : clips ≡ clips_of ys
  pub written : out ≡ flattened ys ++ drop (20 * count) out₀
