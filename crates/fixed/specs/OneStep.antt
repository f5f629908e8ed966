-- What is claimed of a symbol and the six registers: in a good state, at which a symbol falls due, the registers change
-- as `Registers::step` changes them, with the errors that wait longest, and in no other way.
-- (RULES 3.11)
use Rattle.std.specs.Prelude.{◌≡◌, ◌<◌, true}
use Rattle.params.specs.Judge.{Sheet}
use Rattle.registers.specs.Step.{after_symbol}
use Rattle.state.specs.declared.Frontend.{Frontend}
use Rattle.fixed.specs.Queue.{oldest_due, oldest_errors}
use Rattle.fixed.specs.Sample.{with_symbol, falls}
use Rattle.state.specs.Check.{good_state}

abbrev pub OneStep : Type 0
OneStep =
    (s : Sheet) (f : Frontend) → good_state s.params f ≡ true → falls f ≡ true → f.samples < 18446744073709551615
    → after_symbol s.params f.registers (oldest_due s.params f) (oldest_errors f) ≡ record { registers = (with_symbol s f).registers; made = true }
