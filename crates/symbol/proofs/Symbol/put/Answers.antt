-- `symbol::Symbol::put` meets its contract: a turn of its loop puts one place more behind those that the output has, and keeps all else (`lib.Seq`, `paste`).
-- After the last all 20 of the symbol stand there.
use Rattle.std.proofs.Common.{rules, arith, ◌≡◌, ℕ, ◌+◌, ◌*◌, ◌/◌, ◌<◌, ◌≤◌, List, length, slice_index_or, refl, true, take, drop, append_assoc}
use lib.Seq.{paste-zero, paste-suc, take_all}
use lib.IntN.{ℤ, pos}
use native.Mathlib.Numerals.{add-one}
use mir.Syntax.{w64}
use Rattle.arith.proofs.Bits.{held}
use Rattle.symbol.specs.declared.Symbol.{Symbol}
use Rattle.symbol.specs.Places.{put_of, has_room}
use Rattle.arith.proofs.Both.{and_both}
use borrow.Author.Tests.{lt-ltb, le-leb}
use Rattle.symbol.proofs.Symbol.put.Goals as goal

room_for : (y : Symbol) (count : ℕ) (out : List ℤ) → count < length out / 20 → y.sample ≤ 9223372036854775807 → has_room y count out ≡ true
unfolding has_room
room_for y count out below small = and_both (lt-ltb _ _ below) (le-leb _ _ small)

pub loop-j-init : goal.loop-j-init
loop-j-init c = paste-zero c.args.out.now (20 * c.args.count) c.places-places.result

pub loop-j-preserved : goal.loop-j-preserved
loop-j-preserved c =
    let y = c.places-places.result in
    let at = 20 * c.args.count in
    let one : c.loop-j.j < length y = search rules in
    let inside : at + c.loop-j.j < length c.args.out.now = omega arith in
    rw (held w64 (slice_index_or y c.loop-j.j (pos 0)) (search rules), c.loop-j.invariant, paste-suc c.args.out.now at y c.loop-j.j (pos 0) inside one, add-one) refl

pub returns : goal.returns
unfolding put_of has_room
returns c =
    let y = c.places-places.result in
    let all : c.loop-j.j ≡ 20 = omega arith in
    let room = room_for c.args.self c.args.count c.args.out.now c.if-out-count.false c.if-self-gt9223372036854775807.false in
    rw (room, c.loop-j.invariant, all, ← c.places-places.ensures, take_all 20 y (search rules)) (rw (append_assoc (take (20 * c.args.count) c.args.out.now) y (drop (20 * c.args.count + 20) c.args.out.now)) refl)
