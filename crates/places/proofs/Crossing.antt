-- States cross unchanged. A place without its sign is the place where it has none, the held sheet crosses as a sheet does (Sheets), and taking pairs apart and
-- putting them together undo each other (InPairs).
use Prim.Native.Nat.{ℕ, suc, ◌*◌, ◌%◌, ◌<◌}
use mathlib.Core.Path.{◌≡◌, refl, ap, ◌∙◌}
use mathlib.Core.Bool.{Bool, true, false, cond, ◌&&◌}
use mathlib.Core.List.{List, ◌∷◌}
use native.Mathlib.Omega.{arith}
use lib.Dec.{lit<}
use lib.ListN.{length, get_or, drop}
use lib.IntN.{ℤ}
use Rattle.state.specs.declared.Pair.{Pair}
use Rattle.registers.specs.declared.Pending.{Pending}
use Rattle.state.specs.declared.Frontend.{Frontend}
use Rattle.kinds.specs.declared.Kind.TheVariants.{U8, U32, Count}
use Rattle.kinds.specs.Kinds.{at, is_kind, are_kinds}
use Rattle.places.specs.Sheet.{sheet_numbers}
use Rattle.places.specs.States.{Slices, line_of, pending_of, line_numbers, pending_numbers, first_kinds, registers_at, state_of, first_numbers, numbers_of}
use Rattle.places.specs.States.{are_long, state_fits, AreState, has_places, StateAnswer, state_answered, state_written}
use Rattle.places.specs.Crossing.{TypedSheet, Whole, Typed, StatesCross}
use Rattle.arith.proofs.Both.{and_both}
use Rattle.kinds.proofs.OfKind.{own, front}
use Rattle.places.proofs.Readable.{are_state, state-made, first_at}
use Rattle.places.proofs.InPairs.{flat-long, in-flat, flat_in}
use Rattle.places.proofs.Sheets.{sheets_cross}

-- ---- the pairs

line-long : (line : List Pair) → length (line_numbers line) ≡ 2 * length line
line-long = flat-long (λ (x : Pair). x.i) (λ (x : Pair). x.q)

line-back : (line : List Pair) → line_of (line_numbers line) ≡ line
line-back = in-flat (λ a b. record { i = a; q = b }) (λ (x : Pair). x.i) (λ (x : Pair). x.q) (λ x. refl)

line-again : (l : List ℤ) → length l % 2 ≡ 0 → line_numbers (line_of l) ≡ l
line-again = flat_in (λ a b. record { i = a; q = b }) (λ (x : Pair). x.i) (λ (x : Pair). x.q) (λ a b. refl) (λ a b. refl)

pending-long : (pending : List Pending) → length (pending_numbers pending) ≡ 2 * length pending
pending-long = flat-long (λ (x : Pending). x.e) (λ (x : Pending). x.err)

pending-back : (pending : List Pending) → pending_of (pending_numbers pending) ≡ pending
pending-back = in-flat (λ a b. record { e = a; err = b }) (λ (x : Pending). x.e) (λ (x : Pending). x.err) (λ x. refl)

pending-again : (l : List ℤ) → length l % 2 ≡ 0 → pending_numbers (pending_of l) ≡ l
pending-again = flat_in (λ a b. record { e = a; err = b }) (λ (x : Pending). x.e) (λ (x : Pending). x.err) (λ a b. refl) (λ a b. refl)

-- ---- written and read

back : (f : Frontend) → state_of (numbers_of f) ≡ f
unfolding state_of numbers_of registers_at
back f = λ i.
    record {
      params = sheets_cross.back f.params i;
      registers = f.registers;
      line = line-back f.line i;
      head = f.head;
      pending = pending-back f.pending i;
      oldest = f.oldest;
      waiting = f.waiting;
      samples = f.samples;
    }

-- ---- what was written fits

-- where the first places and those of the sheet do
parts_fit : (f : Frontend) → Whole f → are_kinds first_kinds (first_numbers f) ≡ true → TypedSheet f.params → state_fits (numbers_of f) ≡ true
unfolding numbers_of sheet_numbers
parts_fit f w first sheet =
    state-made (numbers_of f) (record {
      places = refl;
      line = omega (arith, line-long f.line, w.line);
      errors = omega (arith, pending-long f.pending, w.pending);
      first = rw first refl;
      sheet = sheets_cross.fit f.params sheet;
    })

-- slices that were written without a refusal
pub written_fits : (f : Frontend) (old : Slices) {l : Slices} → ◌≡◌ {A = StateAnswer} (record { number = 0; state = l }) (state_written f old) → Whole f
    → are_kinds first_kinds (first_numbers f) ≡ true → TypedSheet f.params → state_fits l ≡ true
unfolding state_written
written_fits f old {l} is w first sheet = go (are_long old && has_places f) is
  where
    go : (b : Bool) → ◌≡◌ {A = StateAnswer} (record { number = 0; state = l }) (state_answered (cond b 0 9) (numbers_of f) old) → state_fits l ≡ true
    go true e = ap (λ (a : StateAnswer). state_fits a.state) e ∙ parts_fit f w first sheet
    go false e = let z : ◌≡◌ {A = ℕ} 0 9 = ap (λ (a : StateAnswer). a.number) e in absurd (omega arith)

-- where each field does
fit : (f : Frontend) → Whole f → Typed f → state_fits (numbers_of f) ≡ true
unfolding are_kinds
fit f w t =
    let counts = and_both t.symbols (and_both t.head (and_both t.oldest (and_both t.waiting (and_both t.samples refl)))) in
    parts_fit f w (and_both t.nco (and_both t.time (and_both t.integrator (and_both t.period (and_both t.gain counts))))) t.sheet

-- ---- read and written

module _ (l : Slices) (fits : state_fits l ≡ true) where
  r : AreState l
  r = are_state l fits

  -- a place in front of those behind it
  place : (n : ℕ) → n < 10 → {z : ℤ} {rest : List ℤ} → z ≡ at l.places n → rest ≡ drop (suc n) l.places → z ∷ rest ≡ drop n l.places
  place n h e k = front l.places n (omega (arith, r.places)) e k

  kind : (n : ℕ) → n < 10 → is_kind (get_or first_kinds n U8) (at l.places n) ≡ true
  kind n h = (first_at l.places r.first n h).is

  places-again : (numbers_of (state_of l)).places ≡ l.places
  unfolding state_of numbers_of registers_at
  places-again =
      place 0 (lit< tt) (own U32 (at l.places 0) refl (kind 0 (lit< tt)))
      (place 1 (lit< tt) refl
      (place 2 (lit< tt) refl
      (place 3 (lit< tt) (own U32 (at l.places 3) refl (kind 3 (lit< tt)))
      (place 4 (lit< tt) (own U32 (at l.places 4) refl (kind 4 (lit< tt)))
      (place 5 (lit< tt) (own Count (at l.places 5) refl (kind 5 (lit< tt)))
      (place 6 (lit< tt) (own Count (at l.places 6) refl (kind 6 (lit< tt)))
      (place 7 (lit< tt) (own Count (at l.places 7) refl (kind 7 (lit< tt)))
      (place 8 (lit< tt) (own Count (at l.places 8) refl (kind 8 (lit< tt)))
      (place 9 (lit< tt) (own Count (at l.places 9) refl (kind 9 (lit< tt))) (sheets_cross.again (drop 10 l.places) r.sheet))))))))))

  again : numbers_of (state_of l) ≡ l
  unfolding state_of numbers_of
  again = λ i. record {
    places = places-again i;
    line = line-again l.line (omega (arith, r.line)) i;
    errors = pending-again l.errors (omega (arith, r.errors)) i;
  }

pub states_cross : StatesCross
states_cross = record { back = back; fit = fit; again = again }
