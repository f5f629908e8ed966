-- Sheets cross unchanged: a field that is written is read back as itself, and a place of a sheet without its sign is the place.
use Prim.Native.Nat.{ℕ, suc, ◌<◌}
use mathlib.Core.Path.{◌≡◌, refl, sym}
use mathlib.Core.Bool.{true}
use mathlib.Core.List.{List, [], ◌∷◌, ◌++◌}
use native.Mathlib.Omega.{arith}
use lib.Dec.{lit<}
use lib.ListN.{length, get_or, take, drop, drop_of_length-le}
use lib.IntN.{ℤ}
use Rattle.arith.proofs.Both.{and_both}
use Rattle.params.specs.declared.Params.{Params}
use Rattle.kinds.specs.declared.Kind.TheVariants.{U8, U32}
use Rattle.kinds.specs.Kinds.{at, is_kind, are_kinds}
use Rattle.kinds.proofs.OfKind.{own, front}
use Rattle.kinds.proofs.Readable.{readable}
use Rattle.places.specs.Sheet.{sheet_kinds, sheet_number, params_at, sheet_numbers}
use Rattle.places.specs.Crossing.{TypedSheet, SheetsCross}
use Rattle.places.proofs.Readable.{sheet_at}

-- ---- written and read

back : (p : Params) → params_at (sheet_numbers p) ≡ p
unfolding params_at sheet_numbers
back p = refl

fit : (p : Params) → TypedSheet p → sheet_number (sheet_numbers p) ≡ 0
unfolding sheet_numbers are_kinds
fit p t =
    let each : are_kinds sheet_kinds (sheet_numbers p) ≡ true =
    and_both t.taps (and_both t.nco_step
    (and_both t.period_nominal (and_both t.period_min (and_both t.period_max (and_both t.ted_shift
    (and_both t.kp (and_both t.kp_shift (and_both t.ki (and_both t.ki_shift (and_both t.integrator_max (and_both t.agc_init
    (and_both t.agc_target (and_both t.agc_shift (and_both t.bits (and_both t.q_shift (and_both t.block_log2
    (and_both t.delay refl))))))))))))))))) in
    rw each refl

-- so the first 18 places can be read once the sheet is written to them
pub sheet_readable : (p : Params) (l : List ℤ) → TypedSheet p → sheet_number (take 18 (sheet_numbers p ++ drop 18 l)) ≡ 0
unfolding sheet_numbers
sheet_readable p l t = fit p t

-- ---- read and written

module _ (l : List ℤ) (e : sheet_number l ≡ 0) where
  long : length l ≡ 18
  long = (readable sheet_kinds l e).long

  place : (n : ℕ) → n < 18 → {z : ℤ} {rest : List ℤ} → z ≡ at l n → rest ≡ drop (suc n) l → z ∷ rest ≡ drop n l
  place n h is behind = front l n (omega (arith, long)) is behind

  kind : (n : ℕ) → n < 18 → is_kind (get_or sheet_kinds n U8) (at l n) ≡ true
  kind n h = (sheet_at l e n h).is

  none : [] ≡ drop 18 l
  none = sym (drop_of_length-le l {i = 18} (omega (arith, long)))

  again : sheet_numbers (params_at l) ≡ l
  unfolding params_at sheet_numbers
  again =
      place 0 (lit< tt) (own U32 (at l 0) refl (kind 0 (lit< tt)))
      (place 1 (lit< tt) refl
      (place 2 (lit< tt) (own U32 (at l 2) refl (kind 2 (lit< tt)))
      (place 3 (lit< tt) (own U32 (at l 3) refl (kind 3 (lit< tt)))
      (place 4 (lit< tt) (own U32 (at l 4) refl (kind 4 (lit< tt)))
      (place 5 (lit< tt) (own U8 (at l 5) refl (kind 5 (lit< tt)))
      (place 6 (lit< tt) refl
      (place 7 (lit< tt) (own U8 (at l 7) refl (kind 7 (lit< tt)))
      (place 8 (lit< tt) refl
      (place 9 (lit< tt) (own U8 (at l 9) refl (kind 9 (lit< tt)))
      (place 10 (lit< tt) refl
      (place 11 (lit< tt) (own U32 (at l 11) refl (kind 11 (lit< tt)))
      (place 12 (lit< tt) (own U32 (at l 12) refl (kind 12 (lit< tt)))
      (place 13 (lit< tt) (own U8 (at l 13) refl (kind 13 (lit< tt)))
      (place 14 (lit< tt) (own U8 (at l 14) refl (kind 14 (lit< tt)))
      (place 15 (lit< tt) (own U8 (at l 15) refl (kind 15 (lit< tt)))
      (place 16 (lit< tt) (own U8 (at l 16) refl (kind 16 (lit< tt)))
      (place 17 (lit< tt) (own U8 (at l 17) refl (kind 17 (lit< tt)))
      none)))))))))))))))))

pub sheets_cross : SheetsCross
sheets_cross = record { back = back; fit = fit; again = again }
