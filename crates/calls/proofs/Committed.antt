-- What a commit writes: a sheet's places behind the first ten, which are then the places of the state with that sheet. The first ten are of registers,
-- positions and counts, which a commit leaves: so slices that are a state stay one.
use Prim.Native.Nat.{ℕ, ◌-◌}
use mathlib.Core.Path.{◌≡◌, refl, sym, ap, ◌∙◌}
use mathlib.Core.Bool.{true}
use mathlib.Core.List.{List, [], ◌++◌, append-nil}
use native.Mathlib.Omega.{arith}
use lib.ListN.{length, take, drop, length-take, length-drop, length-append, drop_of_length-le}
use lib.Seq.{take_at, drop_at, take_all}
use lib.IntN.{ℤ}
use borrow.Author.Tests.{eq-eqb, le-leb}
use borrow.Rule.Slice.PartMut.{put_mid, mid_of, post_of}
use Rattle.params.specs.declared.Params.{Params}
use Rattle.params.specs.Refusal.{nothing, first_of}
use Rattle.params.specs.Judge.{Sheet}
use Rattle.state.specs.declared.Frontend.{Frontend}
use Rattle.retune.specs.Retune.{commit_faults, retuned, Commit, commit_of}
use Rattle.places.specs.Sheet.{sheet_number, sheet_numbers, sheet_written}
use Rattle.places.specs.States.{Slices, slices, first_numbers, state_fits, AreState, state_of, numbers_of}
use Rattle.places.proofs.Readable.{are_state, state-made}
use Rattle.places.proofs.Crossing.{states_cross}
use Rattle.calls.specs.Calls.{sheet_at, state_number, commit_answer}
use Rattle.calls.proofs.NoState.{state-fits}

-- a commit that refuses nothing leaves the state with the new fields
takes : (s : Sheet) (ticket : ℕ) (f : Frontend) → (commit_of s ticket f).refused.number ≡ 0 → (commit_of s ticket f).state ≡ retuned s.params f
unfolding commit_of
takes s ticket f e = rw (eq-eqb (first_of (commit_faults s ticket f)).number 0 e) refl

-- the places of a state, with other numbers from place 10 on
module _ (l : Slices) (fits : state_fits l ≡ true) where
  r : AreState l
  r = are_state l fits

  abbrev count : ℕ
  count = length l.places - 10

  sized : length (mid_of 10 count l.places) ≡ 18
  sized = omega (arith, length-take count (drop 10 l.places), length-drop 10 l.places, r.places)

  -- there are no places behind these
  put : (ys : List ℤ) → put_mid 10 count l.places ys ≡ take 10 l.places ++ ys
  put ys =
      let post : post_of 10 count l.places ≡ [] = drop_of_length-le (drop 10 l.places) {i = count} (omega (arith, length-drop 10 l.places)) in
      (λ i. take 10 l.places ++ (ys ++ post i)) ∙ ap (λ (x : List ℤ). take 10 l.places ++ x) (append-nil ys)

  -- if the numbers can be read as a sheet, the slices are a state again
  pub put_fits : (ys : List ℤ) → length ys ≡ length (mid_of 10 count l.places) → sheet_number (take 18 ys) ≡ 0
      → state_fits (slices (put_mid 10 count l.places ys) l.line l.errors) ≡ true
  put_fits ys long sheet =
      let ten : length (take 10 l.places) ≡ 10 = omega (arith, length-take 10 l.places, r.places) in
      rw (put ys)
      (state-made (slices (take 10 l.places ++ ys) l.line l.errors) (record {
        places = omega (arith, length-append (take 10 l.places) ys, ten, long, sized);
        line = r.line;
        errors = r.errors;
        first = rw (take_at (take 10 l.places) ys 10 ten) r.first;
        sheet = rw (drop_at (take 10 l.places) ys 10 ten) (rw (take_all 18 ys (omega (arith, long, sized))) at sheet);
      }))

  -- if they are a sheet's, the places are those of the state with that sheet
  module _ (p : Params) where
    pub written : sheet_written p (mid_of 10 count l.places) ≡ record { number = 0; places = sheet_numbers p }
    unfolding sheet_written
    written =
        let mid : List ℤ = mid_of 10 count l.places in
        let none : drop 18 mid ≡ [] = drop_of_length-le mid {i = 18} (omega (arith, sized)) in
        rw (le-leb 18 (length mid) (omega (arith, sized)), none, append-nil (sheet_numbers p)) refl

    front : take 10 l.places ≡ first_numbers (state_of l)
    unfolding numbers_of
    front =
        ap (λ (x : Slices). take 10 x.places) (sym (states_cross.again l fits))
        ∙ take_at (first_numbers (state_of l)) (sheet_numbers (state_of l).params) 10 refl

    put_sheet : put_mid 10 count l.places (sheet_numbers p) ≡ (numbers_of (retuned p (state_of l))).places
    unfolding numbers_of retuned
    put_sheet = put (sheet_numbers p) ∙ (λ i. front i ++ sheet_numbers p)

-- so the sheet written there is the answer
pub commit_made : (ticket : ℕ) (l h g k : List ℤ) (state : Slices) (f : Frontend) → 0 ≡ sheet_number l → 0 ≡ state_number (sheet_at l h g k) state
    → ◌≡◌ {A = Commit} (record { refused = nothing; state = f }) (commit_of (sheet_at l h g k) ticket (state_of state))
    → commit_answer ticket l h g k state
    ≡ record { number = 0; places = put_mid 10 (length state.places - 10) state.places (sheet_numbers f.params) }
unfolding commit_answer retuned
commit_made ticket l h g k state f read passes told =
    let s : Sheet = sheet_at l h g k in
    let is : f ≡ retuned s.params (state_of state) =
    ap (λ (a : Commit). a.state) told ∙ takes s ticket (state_of state) (ap (λ (a : Commit). a.refused.number) (sym told)) in
    let places : (numbers_of f).places ≡ put_mid 10 (length state.places - 10) state.places (sheet_numbers f.params) =
    ap (λ (x : Frontend). (numbers_of x).places) is ∙ sym (put_sheet state (state-fits s state (sym passes)) s.params)
    ∙ ap (λ (x : Frontend). put_mid 10 (length state.places - 10) state.places (sheet_numbers x.params)) (sym is) in
    rw (← read, ← passes, ← told) (λ i. record { number = 0; places = places i })
