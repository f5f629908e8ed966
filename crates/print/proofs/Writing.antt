-- Texts put into a buffer: a text put behind another is both together, since their bytes are set one after the other.
-- Bytes that are set leave what stood before them, so the part of a page that is printed is its text and then theirs.
use Rattle.std.proofs.Common.{◌≡◌, refl, sym, ◌∙◌, ap, ℕ, suc, ◌+◌, ◌-◌, ◌≤◌, ◌<◌, List, [], ◌∷◌, ◌++◌, append_assoc, arith}
use Rattle.std.proofs.Common.{length, length-append, take, drop, set}
use native.Mathlib.Nat.{add-zero}
use native.Mathlib.Decide.{dec_le}
use borrow.Author.Tests.{le-leb, lt-leb}
use borrow.Rule.Slice.PartMut.{put_mid}
use Rattle.std.proofs.Math.Seq.{take-append_seam}
use Rattle.std.proofs.lemmas.List.{length-take-le, drop-drop}
use Rattle.std.proofs.lemmas.List.Edits.{sets, sets-eq}
use Rattle.print.specs.Print.{Put, roomed}

-- ---- one text

pub put_part : (s out mid : List ℕ) (at : ℕ) → at + length s ≤ length out → mid ≡ s → Put s out at (at + length s) (put_mid at (at + length s - at) out mid)
put_part s out mid at h e =
    let n : at + length s - at ≡ length s = omega arith in
    let whole = sets-eq s out at h ∙ append_assoc (take at out) s (drop (at + length s) out) in
    record { end = refl; bytes = rw (e, n, drop-drop) (sym whole) }

none : (out : List ℕ) (at : ℕ) → Put [] out at at out
none out at = record { end = omega arith; bytes = refl }

-- ---- texts one behind the other

sets-append : (l : List ℕ) (i : ℕ) (a b : List ℕ) → sets l i (a ++ b) ≡ sets (sets l i a) (i + length a) b
sets-append l i [] b = ap (λ (k : ℕ). sets l k b) (sym (add-zero i))
sets-append l i (x ∷ a) b =
    let e : suc i + length a ≡ i + suc (length a) = omega arith in
    sets-append (set l i x) (suc i) a b ∙ ap (λ (k : ℕ). sets (sets (set l i x) (suc i) a) k b) e

pub joined : {a b out : List ℕ} {at p r : ℕ} {mid left : List ℕ} → Put a out at p mid → Put b mid p r left → Put (a ++ b) out at r left
joined {a} {b} {out} {at} {p} {r} {mid} {left} x y = record {
  end = omega (arith, x.end, y.end, length-append a b);
  bytes = rw (sets-append out at a b, ← x.bytes, ← x.end) y.bytes;
}

pub with_byte : {a out mid : List ℕ} {at p : ℕ} (d : ℕ) → Put a out at p mid → Put (a ++ (d ∷ [])) out at (p + 1) (set mid p d)
with_byte d x = joined x (record { end = refl; bytes = refl })

-- ---- room

pub without_room : (room bytes at : ℕ) (text : List ℕ) → bytes < at + room → roomed room bytes at text ≡ []
unfolding roomed
without_room room bytes at text h = rw (lt-leb (at + room) bytes h)

pub with_room : {parts out left : List ℕ} {at r : ℕ} (room bytes : ℕ) (text : List ℕ) → at + room ≤ bytes → parts ≡ text → Put parts out at r left
    → Put (roomed room bytes at text) out at r left
unfolding roomed
with_room {at = at} room bytes text h e x = rw (le-leb (at + room) bytes h, ← e) x

pub nothing : (room bytes at : ℕ) (out : List ℕ) → Put (roomed room bytes at []) out at at out
nothing room bytes at out = elim (dec_le (at + room) bytes) [
  | yes h ↦ with_room room bytes [] h refl (none out at)
  | no h ↦ rw (without_room room bytes at [] (omega arith)) (none out at)
]

-- ---- a page

pub on_page : (room n used r : ℕ) (text bytes left : List ℕ) → length bytes ≡ n → used ≤ n → r ≤ n
    → Put (roomed room (length bytes) used text) bytes used r left
    → take r left ≡ take used bytes ++ roomed room n (length (take used bytes)) text
on_page room n used r text bytes left e f g x =
    let fits : used ≤ length bytes = omega arith in
    let t = roomed room (length bytes) used text in
    let printed = take used bytes ++ t in
    let long : length printed ≡ r = length-append (take used bytes) t ∙ omega (arith, length-take-le used bytes fits, x.end) in
    let all : left ≡ printed ++ drop (used + length t) bytes = x.bytes ∙ sets-eq t bytes used (omega (arith, x.end)) in
    rw (length-take-le used bytes fits, ← e, all, ← long) (take-append_seam printed (drop (used + length t) bytes))
