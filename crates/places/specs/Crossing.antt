-- What is claimed of sheets and states as places: crossing changes none, and what was written can be read.
use Rattle.std.specs.Prelude.{◌≡◌, true, List, length, ℤ, pos}
use Rattle.params.specs.declared.Params.{Params}
use Rattle.state.specs.declared.Frontend.{Frontend}
use Rattle.state.specs.Start.{ring_places}
use Rattle.kinds.specs.declared.Kind.TheVariants.{U8, U32, I16, I32, I64, Count}
use Rattle.kinds.specs.Kinds.{is_kind}
use Rattle.places.specs.Sheet.{sheet_number, params_at, sheet_numbers}
use Rattle.places.specs.States.{Slices, state_fits, state_of, numbers_of}

-- ---- sheets

-- The fields of a sheet are numbers of their types.
pub record TypedSheet (p : Params) : Type 0 where
  pub taps : is_kind U32 (pos p.taps) ≡ true
  pub nco_step : is_kind I32 p.nco_step ≡ true
  pub period_nominal : is_kind U32 (pos p.period_nominal) ≡ true
  pub period_min : is_kind U32 (pos p.period_min) ≡ true
  pub period_max : is_kind U32 (pos p.period_max) ≡ true
  pub ted_shift : is_kind U8 (pos p.ted_shift) ≡ true
  pub kp : is_kind I16 p.kp ≡ true
  pub kp_shift : is_kind U8 (pos p.kp_shift) ≡ true
  pub ki : is_kind I16 p.ki ≡ true
  pub ki_shift : is_kind U8 (pos p.ki_shift) ≡ true
  pub integrator_max : is_kind I32 p.integrator_max ≡ true
  pub agc_init : is_kind U32 (pos p.agc_init) ≡ true
  pub agc_target : is_kind U32 (pos p.agc_target) ≡ true
  pub agc_shift : is_kind U8 (pos p.agc_shift) ≡ true
  pub bits : is_kind U8 (pos p.bits) ≡ true
  pub q_shift : is_kind U8 (pos p.q_shift) ≡ true
  pub block_log2 : is_kind U8 (pos p.block_log2) ≡ true
  pub delay : is_kind U8 (pos p.delay) ≡ true

-- A sheet that is written to places and read again is the same in every field, and its places are those of a sheet; places of a sheet that are read and
-- written again hold what they held.
pub record SheetsCross : Type 0 where
  pub back : (p : Params) → params_at (sheet_numbers p) ≡ p
  pub fit : (p : Params) → TypedSheet p → sheet_number (sheet_numbers p) ≡ 0
  pub again : (l : List ℤ) → sheet_number l ≡ 0 → sheet_numbers (params_at l) ≡ l

-- ---- states

-- A state has a line of 64 pairs and a ring of `ring_places` pairs of errors, as its arrays have.
pub record Whole (f : Frontend) : Type 0 where
  pub line : length f.line ≡ 64
  pub pending : length f.pending ≡ ring_places

-- Its fields are numbers of their types, those of the held sheet too, and its counts small enough for a place.
pub record Typed (f : Frontend) : Type 0 where
  pub sheet : TypedSheet f.params
  pub nco : is_kind U32 (pos f.registers.nco) ≡ true
  pub time : is_kind I64 f.registers.t_acc ≡ true
  pub integrator : is_kind I64 f.registers.v ≡ true
  pub period : is_kind U32 (pos f.registers.period) ≡ true
  pub gain : is_kind U32 (pos f.registers.gain_acc) ≡ true
  pub symbols : is_kind Count (pos f.registers.symbols) ≡ true
  pub head : is_kind Count (pos f.head) ≡ true
  pub oldest : is_kind Count (pos f.oldest) ≡ true
  pub waiting : is_kind Count (pos f.waiting) ≡ true
  pub samples : is_kind Count (pos f.samples) ≡ true

-- A state that is written to slices and read again is the same in every field, and its slices are a state; slices that are a state and are read and written
-- again hold what they held. (Of any list of pairs the numbers make these pairs again, so the first asks for nothing.)
pub record StatesCross : Type 0 where
  pub back : (f : Frontend) → state_of (numbers_of f) ≡ f
  pub fit : (f : Frontend) → Whole f → Typed f → state_fits (numbers_of f) ≡ true
  pub again : (l : Slices) → state_fits l ≡ true → numbers_of (state_of l) ≡ l
