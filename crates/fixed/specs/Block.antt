-- A block: samples in, symbols out, on any state and into any buffer.
-- (RULES 4.2)
use Rattle.std.specs.Prelude.{ℕ, ◌+◌, ◌*◌, cond, List, [], ◌∷◌, ◌++◌, length, take, drop, ℤ, ◌==◌, Result, Ok, Err}
use Rattle.params.specs.Refusal.{Refusal, nothing, first_of}
use Rattle.params.specs.Judge.{Sheet}
use Rattle.symbol.specs.declared.Symbol.{Symbol}
use Rattle.symbol.specs.Places.{places_of}
use Rattle.state.specs.declared.Pair.{Pair}
use Rattle.state.specs.declared.Frontend.{Frontend}
use Rattle.state.specs.declared.FrontendError.{FrontendError}
use Rattle.state.specs.Check.{pairs_taken, block_faults, frontend_refusal}
use Rattle.fixed.specs.declared.Processed.{Processed}
use Rattle.fixed.specs.Sample.{after, emitted}

-- The values as samples, I before Q.
unfoldable pub pairs_of : List ℤ → List Pair
pairs_of [] = []
pairs_of (i ∷ []) = []
pairs_of (i ∷ q ∷ values) = record { i = i; q = q } ∷ pairs_of values

-- The places of symbols, one symbol after the other.
unfoldable pub flattened : List Symbol → List ℤ
flattened [] = []
flattened (y ∷ ys) = places_of y ++ flattened ys

-- The clips of symbols, added up.
unfoldable pub clips_of : List Symbol → ℕ
clips_of [] = 0
clips_of (y ∷ ys) = y.clips + clips_of ys

-- A block's answer: the refusal, the state handed back, how many pairs were taken, how many symbols were written, the clips of these, and what the output
-- then holds.
pub record Block : Type 0 where
  pub refused : Refusal
  pub state : Frontend
  pub taken : ℕ
  pub count : ℕ
  pub clips : ℕ
  pub output : List ℤ

-- Accepted: the first samples, as many as the block takes with this output, are all that it is made of. What it leaves is the state after them, and their
-- symbols from the first output place on, which it counts with their clips. The other places stay as they were.
unfoldable pub accepted : Sheet → Frontend → List ℤ → List ℤ → Block
accepted s f values out =
    let n : ℕ = pairs_taken (length values) (length out) in
    let xs : List Pair = take n (pairs_of values) in
    let ys : List Symbol = emitted s f xs in
    record {
      refused = nothing;
      state = after s f xs;
      taken = n;
      count = length ys;
      clips = clips_of ys;
      output = flattened ys ++ drop (20 * length ys) out;
    }

-- The first fault refuses the block: the state given comes back, nothing is taken or counted, and no place is touched.
unfoldable pub block_of : Sheet → Frontend → List ℤ → List ℤ → Block
block_of s f values out =
    let r : Refusal = first_of (block_faults s f (length values) (length out)) in
    cond (r.number == 0) (accepted s f values out) (record { refused = r; state = f; taken = 0; count = 0; clips = 0; output = out })

-- What the code's answer says in these terms, with the state and the output as it left them.
abbrev pub processed : Result Processed FrontendError → Frontend → List ℤ → Block
processed (Ok a) f out = record { refused = nothing; state = f; taken = a.taken; count = a.count; clips = a.clips; output = out }
processed (Err e) f out = record { refused = frontend_refusal e; state = f; taken = 0; count = 0; clips = 0; output = out }
