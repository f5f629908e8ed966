-- `symbol::Symbol::places` meets its contract: the conversions only widen, so each place holds the number itself.
-- What the fields of a symbol hold fits their own widths.
use Prim.Native.Nat.{◌^◌, ◌<◌}
use mathlib.Core.Path.{◌≡◌}
use mathlib.Core.List.{[], ◌∷◌}
use native.Mathlib.Omega.{arith}
use lib.Dec.{T, leb}
use lib.IntN.{ℤ}
use lib.Signed.{mag}
use mir.Syntax.{Width, w16, w32, w64}
use mir.Val.{hbits, to_z, of_z}
use mir.Facts.{to_z_pos}
use Rattle.arith.proofs.Bits.{whole, widened}
use Rattle.symbol.specs.declared.Output.{Output}
use Rattle.symbol.specs.declared.Symbol.{Symbol}
use Rattle.symbol.specs.Places.{places_of}
use Rattle.symbol.proofs.Symbol.places.Goals as goal
use Rattle.symbol.proofs.Symbol.places.Goals.{After-from}

-- both numbers of an output fit 16 bits, and all of a symbol's fields their types
record Sized (x : Output) : Type 0 where
  i : mag x.i < 2 ^ 15
  q : mag x.q < 2 ^ 15

record Typed (s : Symbol) : Type 0 where
  phase : s.phase < 2 ^ 8
  y : Sized s.y
  dy : Sized s.dy
  yk : Sized s.yk
  gain : s.gain < 2 ^ 16
  period : s.period < 2 ^ 32
  z : Sized s.z
  dz : Sized s.dz
  zk : Sized s.zk
  q : Sized s.q
  e : mag s.e < 2 ^ 31
  err : mag s.err < 2 ^ 31

typed : (c : After-from) → Typed c.args.self
typed c =
    let y = c.well_formed.0.1.1.1.1 in
    let z = y.1.1.1.1.1 in
    let e = z.1.1.1.1 in
    record {
      phase = c.well_formed.0.1.1.1.0.1;
      y = search y.0;
      dy = search y.1.0;
      yk = search y.1.1.0;
      gain = y.1.1.1.0.1;
      period = y.1.1.1.1.0.1;
      z = search z.0;
      dz = search z.1.0;
      zk = search z.1.1.0;
      q = search z.1.1.1.0;
      e = e.0.1;
      err = e.1.0.1;
    }

-- a signed number of fewer bits, as the conversion to 64 bits gives it
signed : (w : Width) {z : ℤ} (x : ℤ) → T (leb (hbits w) (hbits w64)) → z ≡ to_z w (of_z w x) → mag x < 2 ^ hbits w → to_z w64 (of_z w64 z) ≡ x
signed w x h e m = rw e (widened w64 h (record { sfits = m }))

pub returns : goal.returns
unfolding places_of
returns c =
    let y : Symbol = c.args.self in
    let k : Typed y = typed (goal.at.returns c).After-from in
    λ t. to_z_pos w64 {n = y.sample} (omega (arith, c.requires)) t
    ∷ whole y.phase c.from.ensures (record { fits = omega (arith, k.phase) }) t
    ∷ signed w16 y.y.i tt c.from-2.ensures k.y.i t
    ∷ signed w16 y.y.q tt c.from-3.ensures k.y.q t
    ∷ signed w16 y.dy.i tt c.from-4.ensures k.dy.i t
    ∷ signed w16 y.dy.q tt c.from-5.ensures k.dy.q t
    ∷ signed w16 y.yk.i tt c.from-6.ensures k.yk.i t
    ∷ signed w16 y.yk.q tt c.from-7.ensures k.yk.q t
    ∷ whole y.gain c.from-8.ensures (record { fits = omega (arith, k.gain) }) t
    ∷ whole y.period c.from-9.ensures (record { fits = omega (arith, k.period) }) t
    ∷ signed w16 y.z.i tt c.from-10.ensures k.z.i t
    ∷ signed w16 y.z.q tt c.from-11.ensures k.z.q t
    ∷ signed w16 y.dz.i tt c.from-12.ensures k.dz.i t
    ∷ signed w16 y.dz.q tt c.from-13.ensures k.dz.q t
    ∷ signed w16 y.zk.i tt c.from-14.ensures k.zk.i t
    ∷ signed w16 y.zk.q tt c.from-15.ensures k.zk.q t
    ∷ signed w16 y.q.i tt c.from-16.ensures k.q.i t
    ∷ signed w16 y.q.q tt c.from-17.ensures k.q.q t
    ∷ signed w32 y.e tt c.from-18.ensures k.e t
    ∷ signed w32 y.err tt c.from-19.ensures k.err t
    ∷ []
