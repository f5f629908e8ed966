-- The errors of a run's symbols, and the loop that they make: its integrator, period and gain are what the errors of earlier symbols, one after the other,
-- make of the first ones, each under the sheet in force where it is applied. So as many errors count as there are such sheets.
use Prim.Native.Nat.{ℕ, zero, suc, ◌+◌, ◌≤◌, ◌<◌}
use mathlib.Core.Path.{◌≡◌, refl, ap}
use mathlib.Core.List.{List, [], ◌∷◌, ◌++◌}
use native.Mathlib.Omega.{arith}
use lib.ListN.{length, get_or, take}
use lib.Seq.{take-suc}
use lib.IntN.{pos}
use Rattle.params.specs.declared.Params.{Params}
use Rattle.params.proofs.Accepted.{GoodPeriods, GoodFields}
use Rattle.registers.specs.declared.Pending.{Pending}
use Rattle.symbol.specs.declared.Symbol.{Symbol}
use Rattle.state.specs.Start.{no_pending}
use Rattle.registers.proofs.Loops.{Loop, moved, Within, end_whole}

-- ---- what a run's symbols leave: their periods' sum, and their errors

unfoldable pub total : List Symbol → ℕ
total [] = 0
total (y ∷ ys) = y.period + total ys

abbrev pub errors_of : Symbol → Pending
errors_of y = record { e = y.e; err = y.err }

unfoldable pub errors : List Symbol → List Pending
errors [] = []
errors (y ∷ ys) = errors_of y ∷ errors ys

pub total-append : (a b : List Symbol) → total (a ++ b) ≡ total a + total b
unfolding total
total-append [] b = omega arith
total-append (y ∷ a) b = omega (arith, total-append a b)

pub total-suc : (ys : List Symbol) (k : ℕ) (d : Symbol) → k < length ys → total (take (suc k) ys) ≡ total (take k ys) + (get_or ys k d).period
unfolding total
total-suc ys k d h = rw (take-suc ys k d h) (omega (arith, total-append (take k ys) (get_or ys k d ∷ [])))

pub errors-append : (a b : List Symbol) → errors (a ++ b) ≡ errors a ++ errors b
unfolding errors
errors-append [] b = refl
errors-append (y ∷ a) b = ap (λ (l : List Pending). errors_of y ∷ l) (errors-append a b)

pub length-errors : (a : List Symbol) → length (errors a) ≡ length a
unfolding errors
length-errors [] = refl
length-errors (y ∷ a) = ap suc (length-errors a)

pub errors-take : (n : ℕ) (ys : List Symbol) → errors (take n ys) ≡ take n (errors ys)
unfolding errors
errors-take zero ys = refl
errors-take (suc n) [] = refl
errors-take (suc n) (y ∷ ys) = ap (λ (l : List Pending). errors_of y ∷ l) (errors-take n ys)

-- ---- the loop, moved

-- by one error after the other, each under the sheet of the symbol at which it is applied
unfoldable pub moved_by : Loop → List Params → List Pending → Loop
moved_by l [] ws = l
moved_by l (p ∷ ps) [] = l
moved_by l (p ∷ ps) (w ∷ ws) = moved_by (moved p l w) ps ws

abbrev pub fresh_loop : Params → Loop
fresh_loop p = record { v = pos 0; period = p.period_nominal; gain = p.agc_init }

-- one sheet more, and with it the error that is next
pub moved_by-next : (l : Loop) (ps : List Params) (p : Params) (ws : List Pending) → length ps < length ws
    → moved_by l (ps ++ (p ∷ [])) ws ≡ moved p (moved_by l ps ws) (get_or ws (length ps) no_pending)
unfolding moved_by
moved_by-next l [] p [] h = absurd (omega arith)
moved_by-next l [] p (w ∷ ws) h = refl
moved_by-next l (q ∷ ps) p [] h = absurd (omega arith)
moved_by-next l (q ∷ ps) p (w ∷ ws) h = moved_by-next (moved q l w) ps p ws (omega arith)

-- only as many errors count as there are sheets
pub moved_by-take : (l : Loop) (ps : List Params) (ws : List Pending) (n : ℕ) → length ps ≤ n → moved_by l ps (take n ws) ≡ moved_by l ps ws
unfolding moved_by
moved_by-take l [] ws n h = refl
moved_by-take l (p ∷ ps) ws zero h = absurd (omega arith)
moved_by-take l (p ∷ ps) [] (suc n) h = refl
moved_by-take l (p ∷ ps) (w ∷ ws) (suc n) h = moved_by-take (moved p l w) ps ws n (omega arith)

-- ---- it begins within its clamps

pub fresh-within : (p : Params) → GoodPeriods p → GoodFields p → Within p (fresh_loop p)
fresh-within p k f = record {
  v = (end_whole p k f f.integrator.0 f.integrator.1).0;
  low = k.low;
  high = k.high;
  gain = f.agc-init;
}
