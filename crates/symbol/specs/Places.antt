-- A symbol's 20 places, and the output that it is written to.
use Rattle.std.specs.Prelude.{ℕ, ◌+◌, ◌*◌, ◌/◌, Bool, cond, ◌&&◌, List, [], ◌∷◌, ◌++◌, leb, ltb, length, take, drop, ℤ, pos}
use Rattle.symbol.specs.declared.Symbol.{Symbol}

-- A symbol's 20 places.
-- (RULES 3.10)
unfoldable pub places_of : Symbol → List ℤ
places_of y =
    pos y.sample ∷ pos y.phase ∷ y.y.i ∷ y.y.q ∷ y.dy.i ∷ y.dy.q ∷ y.yk.i ∷ y.yk.q ∷ pos y.gain ∷ pos y.period
    ∷ y.z.i ∷ y.z.q ∷ y.dz.i ∷ y.dz.q ∷ y.zk.i ∷ y.zk.q ∷ y.q.i ∷ y.q.q ∷ y.e ∷ y.err ∷ []

-- How many symbols then stand in an output, and what it holds.
pub record Outcome : Type 0 where
  pub count : ℕ
  pub output : List ℤ

-- There is room for a symbol behind `count` others, and a place of 64 bits signed holds its sample.
unfoldable pub has_room : Symbol → ℕ → List ℤ → Bool
has_room y count out = ltb count (length out / 20) && leb y.sample 9223372036854775807

-- The symbol's places stand behind those of `count` others, and what was behind these goes on; without room nothing changes.
unfoldable pub put_of : Symbol → ℕ → List ℤ → Outcome
put_of y count out =
    cond (has_room y count out)
    (record { count = count + 1; output = take (20 * count) out ++ (places_of y ++ drop (20 * count + 20) out) })
    (record { count = count; output = out })
