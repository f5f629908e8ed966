-- One sample: it is mixed and joins the line, a symbol is made if one falls due, and the time goes on by a sample.
-- (RULES 3.3 to 3.6)
use Rattle.std.specs.Prelude.{ℕ, ◌+◌, ◌/◌, ◌^◌, Bool, cond, List, [], ◌∷◌, ◌++◌, ◌-ℤ◌, int_lt, slice_set, unsigned_abs}
use Rattle.params.specs.declared.Params.{Params}
use Rattle.params.specs.Judge.{Sheet}
use Rattle.registers.specs.declared.Registers.{Registers}
use Rattle.registers.specs.Step.{gain_of, one, found, left}
use Rattle.symbol.specs.declared.Symbol.{Symbol}
use Rattle.symbol.specs.Make.{symbol_from}
use Rattle.state.specs.declared.Pair.{Pair}
use Rattle.state.specs.declared.Frontend.{Frontend}
use Rattle.fixed.specs.Mix.{mixed, next_nco}
use Rattle.fixed.specs.Line.{next_head}
use Rattle.fixed.specs.Filter.{filtered}
use Rattle.fixed.specs.Queue.{oldest_due, oldest_errors, queued_errors, next_oldest, next_waiting}

-- ---- steps 1 and 2

-- The sample is mixed, the phase word goes on, and the mixed sample is the line's newest.
unfoldable pub joined : Sheet → Frontend → Pair → Frontend
joined s f x =
    let p : Params = s.params in
    let r : Registers = f.registers in
    let head : ℕ = next_head p.taps f.head in
    record {
      params = f.params;
      registers = record { nco = next_nco p r.nco; t_acc = r.t_acc; v = r.v; period = r.period; gain_acc = r.gain_acc; symbols = r.symbols };
      line = slice_set f.line head (mixed r.nco x);
      head = head;
      pending = f.pending;
      oldest = f.oldest;
      waiting = f.waiting;
      samples = f.samples;
    }

-- ---- step 3 with a symbol

-- The registers as the symbol finds them: where as many errors wait as the loop's delay, the oldest are applied first.
unfoldable pub found_in : Params → Frontend → Registers
found_in p f = found p f.registers (oldest_due p f) (oldest_errors f)

-- The symbol that falls due in this state, once the sample has joined the line: its phase is the sixty-fourth of the sample that the time says.
-- (RULES 3.5)
unfoldable pub symbol_of : Sheet → Frontend → Symbol
symbol_of s f =
    let p : Params = s.params in
    let phase : ℕ = unsigned_abs f.registers.t_acc / 2 ^ 18 in
    symbol_from p (gain_of (found_in p f)) (found_in p f).period f.samples phase (filtered s phase f.line f.head)

-- The registers are as the symbol leaves them, and its errors wait.
unfoldable pub with_symbol : Sheet → Frontend → Frontend
with_symbol s f = record {
  params = f.params;
  registers = left (found_in s.params f);
  line = f.line;
  head = f.head;
  pending = queued_errors f (record { e = (symbol_of s f).e; err = (symbol_of s f).err });
  oldest = next_oldest s.params f;
  waiting = next_waiting s.params f;
  samples = f.samples + 1;
}

-- ---- step 3 without a symbol

-- Only the time goes on.
unfoldable pub without_symbol : Frontend → Frontend
without_symbol f =
    let r : Registers = f.registers in
    record {
      params = f.params;
      registers = record { nco = r.nco; t_acc = r.t_acc -ℤ one; v = r.v; period = r.period; gain_acc = r.gain_acc; symbols = r.symbols };
      line = f.line;
      head = f.head;
      pending = f.pending;
      oldest = f.oldest;
      waiting = f.waiting;
      samples = f.samples + 1;
    }

-- ---- a sample, and samples one after the other

-- A symbol falls due within this sample.
abbrev pub falls : Frontend → Bool
falls f = int_lt f.registers.t_acc one

-- The state after a sample.
unfoldable pub next : Sheet → Frontend → Pair → Frontend
next s f x = cond (falls f) (with_symbol s (joined s f x)) (without_symbol (joined s f x))

-- The symbols that a sample makes: one or none.
unfoldable pub made_by : Sheet → Frontend → Pair → List Symbol
made_by s f x = cond (falls f) (symbol_of s (joined s f x) ∷ []) []

-- The same of samples one after the other: the state after all of them, and their symbols.
unfoldable pub after : Sheet → Frontend → List Pair → Frontend
after s f [] = f
after s f (x ∷ xs) = after s (next s f x) xs

unfoldable pub emitted : Sheet → Frontend → List Pair → List Symbol
emitted s f [] = []
emitted s f (x ∷ xs) = made_by s f x ++ emitted s (next s f x) xs
