-- An f64 holds every f32, so the wider float is the same number, and it is rounded to 64 bits and clamped to 12.
-- That is the cast to 12 bits (Narrow, of the crate floats), and what it leaves fits 16.
use Rattle.std.proofs.Common.{◌≡◌, ap, ◌∙◌, lt_of_lt_of_le, lit≤, w16, w64, SFits}
use lib.Ieee.{Float, of_bits, to_signed}
use lib.Ieee.Casts.{to_signed_in}
use Rattle.arith.proofs.Bits.{held}
use Rattle.arith.proofs.Widths.{narrowed}
use Rattle.floats.specs.Whole.{round_away}
use Rattle.floats.proofs.Narrow.{signed_narrow}
use Rattle.input.specs.Input.{component_of}
use Rattle.input.proofs.component.Goals as goal

pub returns : goal.returns
unfolding component_of of_bits
returns c =
    let away = c.round_i64 in
    let scaled = c.f32_to_f64_with_nan-scaled in
    let is : c.clamp.result ≡ to_signed 11 (round_away scaled.result) =
    (rw (held w64 away.result away.type_inv, away.ensures) at c.clamp.ensures.value) ∙ signed_narrow 11 63 (lit≤ tt) (round_away scaled.result) in
    let fits : SFits w16 c.clamp.result = rw is (record { sfits = lt_of_lt_of_le (to_signed_in 11 (round_away scaled.result)) (lit≤ tt) }) in
    narrowed tt fits ∙ is ∙ ap (λ (y : Float). to_signed 11 (round_away y)) scaled.ensures
