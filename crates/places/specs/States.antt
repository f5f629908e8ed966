-- A state as three slices: 28 places, which are nco, t, v, period, gain accumulator, symbols, the line's position, the queue's position and count, samples and
-- the 18 fields of the held sheet; the line's 64 pairs; and the 24 pairs of the ring in which errors wait. Line and ring are as they are stored. (RULES 8.3)
use Rattle.std.specs.Prelude.{◌≡◌, ℕ, Bool, cond, ◌&&◌, List, [], ◌∷◌, ◌++◌, eqb, leb, length, take, drop, ℤ, pos, nat_abs}
use Rattle.state.specs.declared.Pair.{Pair}
use Rattle.registers.specs.declared.Pending.{Pending}
use Rattle.registers.specs.declared.Registers.{Registers}
use Rattle.state.specs.declared.Frontend.{Frontend}
use Rattle.fields.specs.Fields.{no_fields}
use Rattle.state.specs.Start.{fresh}
use Rattle.kinds.specs.declared.Kind.{Kind}
use Rattle.kinds.specs.declared.Kind.TheVariants.{U32, I64, Count}
use Rattle.kinds.specs.Kinds.{at, are_kinds, places_number}
use Rattle.places.specs.Sheet.{sheet_kinds, sheet_number, params_at, sheet_numbers}

-- ---- numbers in pairs

-- What numbers make, pair by pair. A last one without a second is left out.
unfoldable pub in_pairs : {A : Type 0} → (ℤ → ℤ → A) → List ℤ → List A
in_pairs of [] = []
in_pairs of (a ∷ []) = []
in_pairs of (a ∷ b ∷ l) = of a b ∷ in_pairs of l

-- The two numbers of each.
unfoldable pub flat_pairs : {A : Type 0} → (A → ℤ) → (A → ℤ) → List A → List ℤ
flat_pairs first second [] = []
flat_pairs first second (x ∷ xs) = first x ∷ second x ∷ flat_pairs first second xs

-- The line's pairs, and the ring's, from and to numbers.
abbrev pub line_of : List ℤ → List Pair
line_of l = in_pairs (λ a b. record { i = a; q = b }) l

abbrev pub pending_of : List ℤ → List Pending
pending_of l = in_pairs (λ a b. record { e = a; err = b }) l

abbrev pub line_numbers : List Pair → List ℤ
line_numbers line = flat_pairs (λ (x : Pair). x.i) (λ (x : Pair). x.q) line

abbrev pub pending_numbers : List Pending → List ℤ
pending_numbers pending = flat_pairs (λ (x : Pending). x.e) (λ (x : Pending). x.err) pending

-- ---- the slices

-- A state as it crosses. Line and errors are numbers of 32 bits, of which each is one of theirs.
pub record Slices : Type 0 where
  pub places : List ℤ
  pub line : List ℤ
  pub errors : List ℤ

abbrev pub slices : List ℤ → List ℤ → List ℤ → Slices
slices places line errors = record { places = places; line = line; errors = errors }

-- There are as many numbers in each as a state has.
abbrev pub are_long : Slices → Bool
are_long l = eqb (length l.places) 28 && eqb (length l.line) 128 && eqb (length l.errors) 48

-- ---- from slices

-- The types of the first ten places.
abbrev pub first_kinds : List Kind
first_kinds = U32 ∷ I64 ∷ I64 ∷ U32 ∷ U32 ∷ Count ∷ Count ∷ Count ∷ Count ∷ Count ∷ []

-- The types of all: behind the first ten are the fields of a sheet.
abbrev pub state_kinds : List Kind
state_kinds = first_kinds ++ sheet_kinds

-- The slices are a state: as long as one, and each place has a number of its field's type.
unfoldable pub state_fits : Slices → Bool
state_fits l = are_long l && are_kinds state_kinds l.places

-- That, part by part: the three lengths, the first ten places, and behind them those of a sheet that can be read.
pub record AreState (l : Slices) : Type 0 where
  pub places : length l.places ≡ 28
  pub line : length l.line ≡ 128
  pub errors : length l.errors ≡ 48
  pub first : places_number first_kinds (take 10 l.places) ≡ 0
  pub sheet : sheet_number (drop 10 l.places) ≡ 0

-- The registers that places say. The number of an unsigned field is the place's without its sign: of places that fit, the place's own.
unfoldable pub registers_at : List ℤ → Registers
registers_at l = record {
  nco = nat_abs (at l 0);
  t_acc = at l 1;
  v = at l 2;
  period = nat_abs (at l 3);
  gain_acc = nat_abs (at l 4);
  symbols = nat_abs (at l 5);
}

-- The state that slices say.
unfoldable pub state_of : Slices → Frontend
state_of l = record {
  params = params_at (drop 10 l.places);
  registers = registers_at l.places;
  line = line_of l.line;
  head = nat_abs (at l.places 6);
  pending = pending_of l.errors;
  oldest = nat_abs (at l.places 7);
  waiting = nat_abs (at l.places 8);
  samples = nat_abs (at l.places 9);
}

-- What is read of any slices: the state that they say, where they are one, and else zeros throughout.
unfoldable pub read_state : Slices → Frontend
read_state l = cond (state_fits l) (state_of l) (fresh no_fields)

-- ---- to slices

-- The first ten places of a state.
abbrev pub first_numbers : Frontend → List ℤ
first_numbers f =
    pos f.registers.nco ∷ f.registers.t_acc ∷ f.registers.v ∷ pos f.registers.period ∷ pos f.registers.gain_acc
    ∷ pos f.registers.symbols ∷ pos f.head ∷ pos f.oldest ∷ pos f.waiting ∷ pos f.samples ∷ []

-- The slices of a state.
unfoldable pub numbers_of : Frontend → Slices
numbers_of f = slices (first_numbers f ++ sheet_numbers f.params) (line_numbers f.line) (pending_numbers f.pending)

-- Counts that are small enough for places.
unfoldable pub are_counts : ℕ → ℕ → ℕ → ℕ → ℕ → Bool
are_counts symbols head oldest waiting samples =
    leb symbols 9223372036854775807
    && (leb head 9223372036854775807
    && (leb oldest 9223372036854775807 && (leb waiting 9223372036854775807 && leb samples 9223372036854775807)))

-- The counts of a state are.
abbrev pub has_places : Frontend → Bool
has_places f = are_counts f.registers.symbols f.head f.oldest f.waiting f.samples

-- What is answered where a state is written: a refusal's number, or 0, and what is left in the slices.
pub record StateAnswer : Type 0 where
  pub number : ℕ
  pub state : Slices

-- The slices are written where nothing is refused, and stay as they were where something is.
abbrev pub state_answered : ℕ → Slices → Slices → StateAnswer
state_answered number written l = record { number = number; state = cond (eqb number 0) written l }

-- Writing a state: to slices that are as long as one, or 9 where they are not, or where a count is too large for a place.
unfoldable pub state_written : Frontend → Slices → StateAnswer
state_written f l = state_answered (cond (are_long l && has_places f) 0 9) (numbers_of f) l
