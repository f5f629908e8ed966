-- The numbers of refusals of float samples, which contracts read the code's enum through.
use Rattle.std.specs.Prelude.{ℕ}
use Rattle.input.specs.declared.SampleError.{SampleError}
use Rattle.input.specs.declared.SampleError.TheVariants.{OddInput, ShortOutput}

-- An odd number of floats, then fewer places than floats. (RULES 8.5)
abbrev pub sample_number : SampleError → ℕ
sample_number OddInput = 10
sample_number ShortOutput = 11
