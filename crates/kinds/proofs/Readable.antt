-- Places that are refused by no number: there are as many as kinds, and each has a number of its own kind.
use Prim.Native.Nat.{ℕ, ◌<◌}
use mathlib.Core.Path.{◌≡◌, refl}
use mathlib.Core.Bool.{Bool, true, false, cond}
use mathlib.Core.List.{List}
use native.Mathlib.Omega.{arith}
use lib.Dec.{eqb}
use lib.ListN.{length, get_or}
use lib.IntN.{ℤ}
use borrow.Author.Tests.{eqb-true}
use Rattle.kinds.specs.declared.Kind.{Kind}
use Rattle.kinds.specs.declared.Kind.TheVariants.{U8}
use Rattle.kinds.specs.Kinds.{are_kinds, places_number, KindAt}
use Rattle.kinds.proofs.OfKind.{kind_at}

pub record Readable (kinds : List Kind) (l : List ℤ) : Type 0 where
  pub long : length l ≡ length kinds
  pub each : are_kinds kinds l ≡ true

pub readable : (kinds : List Kind) (l : List ℤ) → places_number kinds l ≡ 0 → Readable kinds l
readable kinds l e = go (eqb (length l) (length kinds)) (are_kinds kinds l) refl refl e
  where
    go : (a b : Bool) → eqb (length l) (length kinds) ≡ a → are_kinds kinds l ≡ b → ◌≡◌ {A = ℕ} (cond a (cond b 0 19) 18) 0 → Readable kinds l
    go true true t k e = record { long = eqb-true (length l) (length kinds) t; each = k }
    go true false t k e = absurd (omega arith)
    go false b t k e = absurd (omega arith)

pub readable-at : (kinds : List Kind) (l : List ℤ) → places_number kinds l ≡ 0 → (n : ℕ) → n < length kinds → KindAt (get_or kinds n U8) l n
readable-at kinds l e n h = kind_at kinds l (readable kinds l e).each n h
