-- Each case holds because antt computes both of its sides to the same value.
use mathlib.Core.Path.{refl}
use Rattle.arith.specs.Arith.{round_shift, clamp_z, sat16_z, sat16_changes, mod_z, wrap_i32, nearest_up, nearest_away}
use Rattle.tables.specs.Wheel.{quarter, wheel}
use Rattle.params.specs.Banks.{row_of, coefficient_faults, magnitudes, row_faults, rows_faults, detector_place, zero_outside, rows_outside, bank_faults}
use Rattle.params.specs.Judge.{good_taps, good_length, length_faults, good_periods, good_delay, field_faults, faults, judged}
use Rattle.offset.specs.Offset.{parts_of, offset_of}
use Rattle.floats.specs.Whole.{round_away}
use Rattle.steps.specs.Steps.{hundredths, period_nominal, at_least_min, period_min, period_max, integrator_max, nco_step, agc_target}
use Rattle.design.specs.Registers.{sps_of, registers_of}
use Rattle.design.specs.Design.{good_sps, good_trim, design_faults, design_of}
use Rattle.fields.specs.Fields.{same_fields}
use Rattle.state.specs.Start.{fresh}
use Rattle.state.specs.Check.{good_state, can_go_on}
use Rattle.state.specs.Read.{read_of}
use Rattle.retune.specs.Retune.{held_faults, ask_faults, commit_faults, ask_of, retuned, commit_of}
use Rattle.fixed.specs.Mix.{mixed}
use Rattle.symbol.specs.Make.{output_of, amplified, quantised, gain_error, symbol_from}
use Rattle.cases.specs.Sheet.{rows, params_with, plain_sheet, sheet, first_of_k}
use Rattle.cases.specs.Rates.{two_samples, registers_with}
use Rattle.cases.specs.Retuned.{under_way, other_nominal, period_from, six_taps}
use Rattle.cases.specs.Worked.{places_from, Worked}
use lib.Ieee.{round, neg, mul, div, lt, le, eq, to_unsigned, to_signed}
use mathlib.Core.List.{flatten}

pub worked : Worked
unfolding flatten round_shift clamp_z sat16_z sat16_changes output_of amplified symbol_from mod_z wrap_i32 nearest_up nearest_away quarter wheel good_taps good_length row_of
    coefficient_faults magnitudes row_faults rows_faults detector_place zero_outside length_faults bank_faults rows_outside good_periods good_delay field_faults faults
    judged parts_of offset_of mixed quantised gain_error rows params_with plain_sheet sheet first_of_k places_from round neg mul div lt le eq to_unsigned to_signed
    round_away hundredths sps_of period_nominal at_least_min period_min period_max integrator_max nco_step agc_target registers_of good_sps good_trim design_faults design_of
    two_samples registers_with fresh same_fields good_state can_go_on read_of held_faults ask_faults commit_faults ask_of retuned commit_of under_way
    other_nominal period_from six_taps
worked = record {
  round-down = refl;
  round_up = refl;
  no-places = refl;
  mixed-end = refl;
  highest = refl;
  lowest = refl;
  sum-refused = refl;
  coefficient-refused = refl;
  sum-passes = refl;
  least-refused = refl;
  least-passes = refl;
  most-passes = refl;
  most-refused = refl;
  detector = refl;
  offset-slow = refl;
  offset-fast = refl;
  tie-slow = refl;
  tie-fast = refl;
  registers-at-two = refl;
  error-wraps = refl;
  upper-stays = refl;
  lower-stays = refl;
  above-changed = refl;
  below-changed = refl;
  none-clipped = refl;
  halves-clipped = refl;
  y-clipped = refl;
  z-clipped = refl;
  all-clipped = refl;
  asked = refl;
  committed = refl;
  read-before = refl;
  read-behind = refl;
  ticket-refused = refl;
  taps-refused = refl;
  state-refused = refl;
  delay-refused = refl;
  period-below = refl;
  period-at = refl;
}
