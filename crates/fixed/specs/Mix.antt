-- The mixer: a sample is turned by the phase word, and the phase word goes on.
-- (RULES 3.3)
use Rattle.std.specs.Prelude.{ℕ, ◌+◌, ◌/◌, ◌^◌, ℤ, pos, ◌+ℤ◌, ◌-ℤ◌, ◌*ℤ◌}
use Rattle.std.specs.Int.Signed.{shr_z}
use Rattle.arith.specs.Arith.{mod_z}
use Rattle.tables.specs.Wheel.{wheel}
use Rattle.params.specs.declared.Params.{Params}
use Rattle.state.specs.declared.Pair.{Pair}

-- A sum of two products with the wheel, brought back from its 15 fractional bits, a half upward.
abbrev pub unscaled : ℤ → ℤ
unscaled z = shr_z (z +ℤ pos 16384) 32768

-- The sample, turned. The upper ten bits of the phase word are the wheel's step; the sine stands three quarters of a turn on.
unfoldable pub mixed : ℕ → Pair → Pair
mixed nco x =
    let c : ℤ = wheel (nco / 2 ^ 22) in
    let s : ℤ = wheel (nco / 2 ^ 22 + 768) in
    record { i = unscaled (x.i *ℤ c -ℤ x.q *ℤ s); q = unscaled (x.i *ℤ s +ℤ x.q *ℤ c) }

-- The phase word of the next sample.
unfoldable pub next_nco : Params → ℕ → ℕ
next_nco p nco = mod_z (pos nco +ℤ p.nco_step) (2 ^ 32)
