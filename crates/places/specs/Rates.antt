-- A design as places: its five rates, which are floats, and eight fields, of which the last five are the gains that a design leaves open.
-- (RULES 8.4)
use Rattle.std.specs.Prelude.{ℕ, cond, List, [], ◌∷◌, eqb, length, get_or, ℤ, nat_abs, Float}
use Rattle.std.specs.Float.{nan}
use Rattle.design.specs.declared.Design.{Design}
use Rattle.design.specs.declared.Gains.{Gains}
use Rattle.kinds.specs.declared.Kind.{Kind}
use Rattle.kinds.specs.declared.Kind.TheVariants.{U8, U32, I16}
use Rattle.kinds.specs.Kinds.{at, places_number}

-- The types of the fields.
abbrev pub design_kinds : List Kind
design_kinds = U32 ∷ U8 ∷ U8 ∷ I16 ∷ U8 ∷ I16 ∷ U8 ∷ U8 ∷ []

-- 18 for another number of rates than five or of fields than eight, 19 for a field whose number is not of its type, and 0 for a design that can be read.
-- Any float is a rate.
unfoldable pub design_number : List Float → List ℤ → ℕ
design_number rates fields = cond (eqb (length rates) 5) (places_number design_kinds fields) 18

-- The rate at a place; a NaN where there is none.
abbrev pub rate_at : List Float → ℕ → Float
rate_at rates n = get_or rates n nan

-- The design. The number of an unsigned field is the place's without its sign: of a design that is not refused by 19 the place's own.
unfoldable pub design_at : List Float → List ℤ → Design
design_at rates fields = record {
  sample_rate = rate_at rates 0;
  symbol_rate = rate_at rates 1;
  carrier_offset = rate_at rates 2;
  trim = rate_at rates 3;
  agc_rms = rate_at rates 4;
  taps = nat_abs (at fields 0);
  bits = nat_abs (at fields 1);
  block_log2 = nat_abs (at fields 2);
}

-- The gains beside it.
unfoldable pub gains_at : List ℤ → Gains
gains_at fields = record {
  kp = at fields 3;
  kp_shift = nat_abs (at fields 4);
  ki = at fields 5;
  ki_shift = nat_abs (at fields 6);
  q_shift = nat_abs (at fields 7);
}
