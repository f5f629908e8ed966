-- The state before the first sample, and starting.
use Rattle.std.specs.Prelude.{ℕ, cond, eqb, replicate, pos, Result, Ok, Err}
use Rattle.params.specs.declared.Params.{Params}
use Rattle.params.specs.declared.ParamError.{ParamError}
use Rattle.params.specs.Refusal.{Refusal, nothing, error_refusal}
use Rattle.params.specs.Judge.{Sheet, judged}
use Rattle.fields.specs.Fields.{no_fields}
use Rattle.registers.specs.declared.Pending.{Pending}
use Rattle.state.specs.declared.Pair.{Pair}
use Rattle.state.specs.declared.Frontend.{Frontend}

abbrev pub no_pair : Pair
no_pair = record { i = pos 0; q = pos 0 }

abbrev pub no_pending : Pending
no_pending = record { e = pos 0; err = pos 0 }

-- The errors that wait stand in a ring of this many places, at every delay.
abbrev pub ring_places : ℕ
ring_places = 24

-- The fresh state: it holds the sheet's fields, with the nominal period and the first gain; nothing in the line, nothing waiting, nothing counted. Without
-- fields it is zeros throughout.
-- (RULES 3.1)
unfoldable pub fresh : Params → Frontend
fresh p = record {
  params = p;
  registers = record { nco = 0; t_acc = pos 0; v = pos 0; period = p.period_nominal; gain_acc = p.agc_init; symbols = 0 };
  line = replicate 64 no_pair;
  head = 0;
  pending = replicate ring_places no_pending;
  oldest = 0;
  waiting = 0;
  samples = 0;
}

-- A refusal, or nothing, with a state.
pub record Start : Type 0 where
  pub refused : Refusal
  pub state : Frontend

-- Starting: the fresh state where the sheet is accepted, and zeros throughout where it is refused.
-- (RULES 3.1)
unfoldable pub start_of : Sheet → Start
start_of s =
    let r : Refusal = judged s in
    record { refused = r; state = fresh (cond (eqb r.number 0) s.params no_fields) }

-- What the code's answer says in these terms.
abbrev pub started : Result Frontend ParamError → Start
started (Ok f) = record { refused = nothing; state = f }
started (Err e) = record { refused = error_refusal e; state = fresh no_fields }
