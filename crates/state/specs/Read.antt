-- Reading a state: period, gain and symbol count.
-- (RULES 4.3)
use Rattle.std.specs.Prelude.{ℕ, cond, eqb, Result, Ok, Err}
use Rattle.params.specs.Refusal.{Refusal, nothing, first_of}
use Rattle.params.specs.Judge.{Sheet}
use Rattle.registers.specs.Step.{gain_of}
use Rattle.state.specs.declared.Frontend.{Frontend}
use Rattle.state.specs.declared.Reading.{Reading}
use Rattle.state.specs.declared.FrontendError.{FrontendError}
use Rattle.state.specs.Check.{state_faults, frontend_refusal}

pub record Read : Type 0 where
  pub refused : Refusal
  pub period : ℕ
  pub gain : ℕ
  pub symbols : ℕ

-- Period, gain and symbol count of a state; 1 to 8, 29 and 9 refuse it, with zeros.
unfoldable pub read_of : Sheet → Frontend → Read
read_of s f =
    let r : Refusal = first_of (state_faults s f) in
    cond (eqb r.number 0)
    (record { refused = nothing; period = f.registers.period; gain = gain_of f.registers; symbols = f.registers.symbols })
    (record { refused = r; period = 0; gain = 0; symbols = 0 })

-- What the code's answer says in these terms.
abbrev pub reading : Result Reading FrontendError → Read
reading (Ok a) = record { refused = nothing; period = a.period; gain = a.gain; symbols = a.symbols }
reading (Err e) = record { refused = frontend_refusal e; period = 0; gain = 0; symbols = 0 }
