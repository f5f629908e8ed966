-- How many clips there can be: one for each number that is held to 16 bits. An output has two of these, and a symbol has six outputs, three of them the
-- others times the gain: so there are twelve at most.
use Prim.Native.Nat.{ℕ, ◌≤◌}
use mathlib.Core.Path.{◌≡◌, refl, sym, subst}
use mathlib.Core.Bool.{Bool, true, false, cond}
use mathlib.Core.List.{List}
use native.Mathlib.Omega.{arith}
use lib.ListN.{get_or}
use lib.IntN.{ℤ, pos, ◌*ℤ◌}
use Rattle.arith.specs.Arith.{round_shift, sat16_changes}
use Rattle.params.specs.declared.Params.{Params}
use Rattle.symbol.specs.declared.Output.{Output}
use Rattle.symbol.specs.declared.Sums.{Sums}
use Rattle.symbol.specs.declared.make.Fitted.{Fitted}
use Rattle.symbol.specs.Make.{fitted, output_of, amplified, symbol_from}

one : (b : Bool) → cond b 1 0 ≤ 1
one true = omega arith
one false = omega arith

two : (i q : ℤ) → (fitted i q).clips ≤ 2
two i q = omega (arith, one (sat16_changes i), one (sat16_changes q))

-- ---- in an output, by what a call answers

pub output-two : (x : Sums) {r : Fitted} → r ≡ output_of x → r.clips ≤ 2
unfolding output_of
output-two x e = subst (λ (f : Fitted). f.clips ≤ 2) (sym e) (two (round_shift x.i 14) (round_shift x.q 14))

pub amplified-two : (gain : ℕ) (x : Output) {r : Fitted} → r ≡ amplified gain x → r.clips ≤ 2
unfolding amplified
amplified-two gain x e =
    subst (λ (f : Fitted). f.clips ≤ 2) (sym e) (two (round_shift (x.i *ℤ pos gain) 10) (round_shift (x.q *ℤ pos gain) 10))

-- ---- in a symbol

pub symbol-twelve : (p : Params) (gain period sample phase : ℕ) (sums : List Sums) → (symbol_from p gain period sample phase sums).clips ≤ 12
unfolding symbol_from
symbol-twelve p gain period sample phase sums =
    let none : Sums = record { i = pos 0; q = pos 0 } in
    let y : Fitted = output_of (get_or sums 0 none) in
    let dy : Fitted = output_of (get_or sums 1 none) in
    let yk : Fitted = output_of (get_or sums 2 none) in
    omega (
      arith,
      output-two (get_or sums 0 none) refl,
      output-two (get_or sums 1 none) refl,
      output-two (get_or sums 2 none) refl,
      amplified-two gain y.output refl,
      amplified-two gain dy.output refl,
      amplified-two gain yk.output refl,
    )
