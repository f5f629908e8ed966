-- The worked cases as one claim.
-- (RULES 9: P1 to P10 in their order, then clips, then a retune.)
use Rattle.std.specs.Prelude.{ℕ, zero, suc, ◌≡◌, true, false, cond, List, [], ◌∷◌, ℤ, pos, negsuc}
use Rattle.arith.specs.Arith.{round_shift, sat16_changes}
use Rattle.params.specs.declared.Params.{Params}
use Rattle.params.specs.Refusal.{Refusal, refusal, nothing}
use Rattle.params.specs.Banks.{detector_place}
use Rattle.params.specs.Judge.{Sheet, judged}
use Rattle.offset.specs.Offset.{offset_of}
use Rattle.design.specs.Refusal.{accepted}
use Rattle.design.specs.Design.{design_of}
use Rattle.state.specs.Read.{read_of}
use Rattle.retune.specs.Retune.{ask_of, commit_of}
use Rattle.fixed.specs.Mix.{mixed}
use Rattle.symbol.specs.declared.Sums.{Sums}
use Rattle.symbol.specs.Make.{quantised, gain_error, symbol_from}
use Rattle.cases.specs.Sheet.{params_with, plain_sheet, sheet, first_of_k}
use Rattle.cases.specs.Rates.{two_samples, registers_with}
use Rattle.cases.specs.Retuned.{under_way, other_nominal, period_from, six_taps}

-- The detector's places among n taps from tap t on.
unfoldable pub places_from : ℕ → ℕ → ℕ → List ℕ
places_from taps t zero = []
places_from taps t (suc n) = cond (detector_place taps t) (t ∷ places_from taps (suc t) n) (places_from taps (suc t) n)

-- A sheet of which only the width of the output counts, and one of which only the power that the gain aims at does.
abbrev pub narrow : Params
narrow = record {
  taps = 4;
  nco_step = pos 0;
  period_nominal = 0;
  period_min = 0;
  period_max = 0;
  ted_shift = 0;
  kp = pos 0;
  kp_shift = 0;
  ki = pos 0;
  ki_shift = 0;
  integrator_max = pos 0;
  agc_init = 0;
  agc_target = 2147483648;
  agc_shift = 0;
  bits = 2;
  q_shift = 0;
  block_log2 = 0;
  delay = 24;
}

-- The clips of a symbol at this gain, with these sums of h and as many of k, and none of g.
abbrev pub clips_with : ℕ → ℤ → ℤ → ℕ
clips_with gain i q =
    let sums : Sums = record { i = i; q = q } in
    (symbol_from narrow gain 0 0 0 (sums ∷ record { i = pos 0; q = pos 0 } ∷ sums ∷ [])).clips

-- What is refused where a sheet is to be put into the state under way: when asking, and when committing with this ticket.
abbrev pub refused_of : Sheet → Refusal
refused_of s = (ask_of s under_way).refused

abbrev pub refused_with : ℕ → Sheet → Refusal
refused_with ticket s = (commit_of s ticket under_way).refused

pub record Worked : Type 0 where
  -- P1
  pub round-down : round_shift (negsuc 2) 1 ≡ negsuc 0
  pub round_up : round_shift (pos 3) 1 ≡ pos 2
  pub no-places : round_shift (pos 5) 0 ≡ pos 5
  -- P2
  pub mixed-end : mixed 0 (record { i = negsuc 32767; q = pos 0 }) ≡ record { i = negsuc 32766; q = pos 0 }
  -- P3
  pub highest : quantised narrow (pos 32767) ≡ pos 1
  pub lowest : quantised narrow (negsuc 32767) ≡ negsuc 1
  -- P4
  pub sum-refused : judged (first_of_k (negsuc 131071)) ≡ refusal 4 (pos 2 ∷ pos 0 ∷ pos 131072 ∷ [])
  pub coefficient-refused : judged (first_of_k (pos 131072)) ≡ refusal 3 (pos 2 ∷ pos 0 ∷ pos 131072 ∷ [])
  pub sum-passes : judged (first_of_k (pos 131071)) ≡ nothing
  -- P5
  pub least-refused : judged (plain_sheet (params_with 33554432 16777216 34225520)) ≡ refusal 6 []
  pub least-passes : judged (plain_sheet (params_with 33554432 16777217 34225520)) ≡ nothing
  -- P6
  pub most-passes : judged (plain_sheet (params_with 33554432 32883343 67108863)) ≡ nothing
  pub most-refused : judged (plain_sheet (params_with 33554432 32883343 67108864)) ≡ refusal 6 []
  -- P7
  pub detector : places_from 32 0 32 ≡ (12 ∷ 13 ∷ 14 ∷ 15 ∷ 16 ∷ 17 ∷ 18 ∷ 19 ∷ [])
  -- P8: a slow sender and a fast one; then a tie of each, where parts of the nominal period would be -977517 and 975610
  pub offset-slow : offset_of sheet 33554465 ≡ record { refused = nothing; parts = negsuc 982 }
  pub offset-fast : offset_of sheet 33554399 ≡ record { refused = nothing; parts = pos 983 }
  pub tie-slow : offset_of (plain_sheet (params_with 33521664 32883343 34225520)) 33554432 ≡ record { refused = nothing; parts = negsuc 976562 }
  pub tie-fast : offset_of (plain_sheet (params_with 33587200 32883343 34225520)) 33554432 ≡ record { refused = nothing; parts = pos 976563 }
  -- P9
  pub registers-at-two : design_of two_samples ≡ accepted (registers_with 33554432 32883343 34225520 335544)
  -- P10
  pub error-wraps : gain_error narrow (record { i = pos 0; q = pos 0 }) ≡ negsuc 2147483647
  -- the ends of 16 bits, and what is next to them
  pub upper-stays : sat16_changes (pos 32767) ≡ false
  pub lower-stays : sat16_changes (negsuc 32767) ≡ false
  pub above-changed : sat16_changes (pos 32768) ≡ true
  pub below-changed : sat16_changes (negsuc 32768) ≡ true
  -- y just at both ends; half of one more, which is rounded up above and below zero; y clipped, and z of what is left of it not; z alone; all eight
  pub none-clipped : clips_with 1024 (pos 536854528) (negsuc 536870911) ≡ 0
  pub halves-clipped : clips_with 1024 (pos 536862720) (negsuc 536879103) ≡ 2
  pub y-clipped : clips_with 1024 (pos 536870912) (pos 0) ≡ 2
  pub z-clipped : clips_with 1025 (pos 536854528) (pos 0) ≡ 2
  pub all-clipped : clips_with 1025 (pos 1073741824) (negsuc 1073741823) ≡ 8
  -- a retune: asking, committing, which moves no register, and reading before and behind
  pub asked : ask_of other_nominal under_way ≡ record { refused = nothing; ticket = 2 }
  pub committed : commit_of other_nominal 2 under_way ≡ record { refused = nothing; state = record under_way { params = other_nominal.params } }
  pub read-before : read_of other_nominal under_way ≡ record { refused = refusal 9 []; period = 0; gain = 0; symbols = 0 }
  pub read-behind :
      read_of other_nominal (commit_of other_nominal 2 under_way).state ≡ record { refused = nothing; period = 33554432; gain = 1024; symbols = 2 }
  -- and what refuses one, in its order: the last fault first, and each with those before it
  pub ticket-refused : refused_with 1 other_nominal ≡ refusal 28 []
  pub taps-refused : refused_with 1 (six_taps sheet.params) ≡ refusal 27 []
  pub state-refused : refused_with 1 (six_taps (period_from 33554433)) ≡ refusal 9 []
  pub delay-refused : refused_with 1 (six_taps (record (period_from 33554433) { delay = 23 })) ≡ refusal 29 []
  -- a least period just above the state's, and one at it
  pub period-below : refused_of (plain_sheet (period_from 33554433)) ≡ refusal 9 []
  pub period-at : refused_of (plain_sheet (period_from 33554432)) ≡ nothing
