-- A sheet, a design and a state that can be read: each of their places has a number of its field's type.
use Prim.Native.Nat.{ℕ, ◌<◌}
use mathlib.Core.Path.{◌≡◌, refl, sym, ap, ◌∙◌}
use mathlib.Core.Bool.{Bool, true, false, ◌&&◌}
use mathlib.Core.List.{List}
use native.Mathlib.Omega.{arith}
use lib.Dec.{eqb}
use lib.ListN.{length, get_or, take, drop, length-take, length-drop}
use lib.IntN.{ℤ, pos}
use lib.Ieee.{Float}
use borrow.Author.Tests.{eq-eqb, eqb-true}
use Rattle.kinds.specs.declared.Kind.{Kind}
use Rattle.kinds.specs.declared.Kind.TheVariants.{U8}
use Rattle.std.proofs.lemmas.List.{get_or-take}
use Rattle.kinds.specs.Kinds.{at, is_kind, are_kinds, places_number, KindAt}
use Rattle.places.specs.Sheet.{sheet_kinds, sheet_number}
use Rattle.places.specs.Rates.{design_kinds, design_number}
use Rattle.places.specs.States.{Slices, are_long, first_kinds, state_kinds, state_fits, AreState}
use Rattle.arith.proofs.Both.{and_left, and_right, and_both}
use Rattle.kinds.proofs.OfKind.{kinds-append}
use Rattle.kinds.proofs.Readable.{readable, readable-at}

-- ---- a sheet

pub sheet_at : (l : List ℤ) → sheet_number l ≡ 0 → (n : ℕ) → n < 18 → KindAt (get_or sheet_kinds n U8) l n
sheet_at l e n h = readable-at sheet_kinds l e n h

-- ---- a design

pub fields_at : (l : List ℤ) → places_number design_kinds l ≡ 0 → (n : ℕ) → n < 8 → KindAt (get_or design_kinds n U8) l n
fields_at l e n h = readable-at design_kinds l e n h

pub record ReadableDesign (rates : List Float) (fields : List ℤ) : Type 0 where
  pub long : length rates ≡ 5
  pub kinds : places_number design_kinds fields ≡ 0

pub readable-design : (rates : List Float) (fields : List ℤ) → design_number rates fields ≡ 0 → ReadableDesign rates fields
unfolding design_number
readable-design rates fields e = go (eqb (length rates) 5) refl
  where
    go : (b : Bool) → eqb (length rates) 5 ≡ b → ReadableDesign rates fields
    go true t = record { long = eqb-true (length rates) 5 t; kinds = rw t at e }
    go false t = let z : ◌≡◌ {A = ℕ} 18 0 = rw t at e in absurd (omega arith)

-- ---- a state

pub long-places : (l : Slices) → are_long l ≡ true → length l.places ≡ 28
long-places l e = eqb-true _ 28 (and_left (eqb (length l.places) 28) (eqb (length l.line) 128) (and_left (eqb (length l.places) 28 && eqb (length l.line) 128) _ e))

-- 28 places are looked at in two parts: the first ten, and behind them those of a sheet
pub in_two_parts : (l : List ℤ) → are_kinds state_kinds l ≡ (are_kinds first_kinds (take 10 l) && are_kinds sheet_kinds (drop 10 l))
in_two_parts l = kinds-append first_kinds sheet_kinds l

unrefused : (kinds : List Kind) (l : List ℤ) → length l ≡ length kinds → are_kinds kinds l ≡ true → places_number kinds l ≡ 0
unrefused kinds l long each = rw (eq-eqb (length l) (length kinds) long, each) refl

pub are_state : (l : Slices) → state_fits l ≡ true → AreState l
unfolding state_fits
are_state l e =
    let a : Bool = eqb (length l.places) 28 in
    let b : Bool = eqb (length l.line) 128 in
    let c : Bool = eqb (length l.errors) 48 in
    let d : Bool = are_kinds state_kinds l.places in
    let first : Bool = are_kinds first_kinds (take 10 l.places) in
    let abc = and_left (a && b && c) d e in
    let ab = and_left (a && b) c abc in
    let long : length l.places ≡ 28 = eqb-true _ 28 (and_left a b ab) in
    let parts = sym (in_two_parts l.places) ∙ and_right (a && b && c) d e in
    record {
      places = long;
      line = eqb-true _ 128 (and_right a b ab);
      errors = eqb-true _ 48 (and_right (a && b) c abc);
      first = unrefused first_kinds (take 10 l.places) (omega (arith, length-take 10 l.places, long)) (and_left first _ parts);
      sheet = unrefused sheet_kinds (drop 10 l.places) (omega (arith, length-drop 10 l.places, long)) (and_right first _ parts);
    }

pub state-made : (l : Slices) → AreState l → state_fits l ≡ true
unfolding state_fits
state-made l r =
    and_both (and_both (and_both (eq-eqb _ 28 r.places) (eq-eqb _ 128 r.line)) (eq-eqb _ 48 r.errors))
    (in_two_parts l.places ∙ and_both (readable first_kinds _ r.first).each (readable sheet_kinds _ r.sheet).each)

pub state-long : (l : Slices) → state_fits l ≡ true → are_long l ≡ true
unfolding state_fits
state-long l e = and_left (are_long l) (are_kinds state_kinds l.places) e

pub first_at : (l : List ℤ) → places_number first_kinds (take 10 l) ≡ 0 → (n : ℕ) → n < 10 → KindAt (get_or first_kinds n U8) l n
first_at l e n h =
    let k = readable-at first_kinds (take 10 l) e n h in
    let same : at (take 10 l) n ≡ at l n = get_or-take 10 l n (pos 0) h in
    record { inside = omega (arith, length-take 10 l, k.inside); is = sym (ap (λ z. is_kind (get_or first_kinds n U8) z) same) ∙ k.is }
