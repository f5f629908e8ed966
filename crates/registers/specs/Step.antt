-- A symbol's step on the six registers, of any registers and any sheet: they change as one group, or are left as they are.
-- (RULES 3.6, 3.11)
use Rattle.std.specs.Prelude.{ℕ, ◌+◌, ◌/◌, Bool, true, false, cond, ◌&&◌, eqb, ltb, Option, ℤ, pos, neg_ℤ, ◌+ℤ◌, ◌-ℤ◌}
use Rattle.std.specs.Int.Signed.{le_z, lt_z}
use Rattle.std.specs.Option.{unwrap_or}
use Rattle.params.specs.declared.Params.{Params}
use Rattle.arith.specs.Arith.{within}
use Rattle.registers.specs.declared.Pending.{Pending}
use Rattle.registers.specs.declared.Registers.{Registers}
use Rattle.registers.specs.Correct.{integrator_end, corrected}

-- The errors of a symbol are applied at the symbol that comes `delay` later. So the oldest are due where as many wait.
abbrev pub is_due : ℕ → ℕ → Bool
is_due delay waiting = eqb waiting delay

-- The gain: the upper 16 of the accumulator's 24 bits.
abbrev pub gain_of : Registers → ℕ
gain_of r = r.gain_acc / 256

-- One sample, in 2^24ths.
abbrev pub one : ℤ
one = pos 16777216

-- A symbol can be made of these registers: it falls due within the sample, the integrator stands within its ends, and one symbol more can be counted.
unfoldable pub can_make_symbol : Params → Registers → Bool
can_make_symbol p r =
    le_z (pos 0) r.t_acc && lt_z r.t_acc one && within (neg_ℤ (integrator_end p)) (integrator_end p) r.v && ltb r.symbols 18446744073709551615

-- As the symbol finds them: where errors are due, v, period and gain accumulator move by them.
unfoldable pub found : Params → Registers → Bool → Pending → Registers
found p r due w = cond due (corrected p r w) r

-- As the symbol leaves them: the next one is a period on, less the sample that goes by, and one more is counted; nco moves with samples and not with symbols.
unfoldable pub left : Registers → Registers
left r = record {
  nco = r.nco;
  t_acc = r.t_acc +ℤ pos r.period -ℤ one;
  v = r.v;
  period = r.period;
  gain_acc = r.gain_acc;
  symbols = r.symbols + 1;
}

-- What a symbol makes of the registers, and whether it was made; where not, they are as given.
pub record AfterSymbol : Type 0 where
  pub registers : Registers
  pub made : Bool

-- Both, where a symbol can be made; otherwise the registers as they are, and the answer that none was made.
unfoldable pub after_symbol : Params → Registers → Bool → Pending → AfterSymbol
after_symbol p r due w = cond (can_make_symbol p r) (record { registers = left (found p r due w); made = true }) (record { registers = r; made = false })

-- The errors that are due; where none are, none of both.
abbrev pub errors_of : Option Pending → Pending
errors_of due = unwrap_or due (record { e = pos 0; err = pos 0 })
