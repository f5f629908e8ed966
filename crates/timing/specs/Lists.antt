-- Lists of calls on a state: blocks and commits, in any order. Each call is given the state that the one before it handed back, refused or not.
-- (RULES 5.1)
use Rattle.std.specs.Prelude.{ℕ, ◌+◌, ◌*◌, ◌≡◌, cond, List, [], ◌∷◌, ◌++◌, eqb, length, take, drop, ℤ}
use Rattle.params.specs.Judge.{Sheet}
use Rattle.state.specs.declared.Pair.{Pair}
use Rattle.state.specs.declared.Frontend.{Frontend}
use Rattle.state.specs.Start.{start_of}
use Rattle.retune.specs.Retune.{commit_of}
use Rattle.fixed.specs.Block.{pairs_of, block_of}

-- A block is given a sheet with its banks, sample values and an output buffer, a commit a sheet with its banks and a ticket: any of each.
pub data Call : Type 0 where
  block : Sheet → List ℤ → List ℤ → Call
  commit : Sheet → ℕ → Call

-- ---- one call

-- The state that it hands back.
abbrev pub state_by : Frontend → Call → Frontend
state_by f (block s values out) = (block_of s f values out).state
state_by f (commit s ticket) = (commit_of s ticket f).state

-- The samples that it takes: a block's first pairs, as many as it answers. A refused block answers 0.
abbrev pub taken_by : Frontend → Call → List Pair
taken_by f (block s values out) = take (block_of s f values out).taken (pairs_of values)
taken_by f (commit s ticket) = []

-- What it writes: 20 places for each symbol that a block counts. A refused block counts none.
abbrev pub written_by : Frontend → Call → List ℤ
written_by f (block s values out) = take (20 * (block_of s f values out).count) (block_of s f values out).output
written_by f (commit s ticket) = []

-- How many symbols it counts, and how many clips.
abbrev pub counted_by : Frontend → Call → ℕ
counted_by f (block s values out) = (block_of s f values out).count
counted_by f (commit s ticket) = 0

abbrev pub clipped_by : Frontend → Call → ℕ
clipped_by f (block s values out) = (block_of s f values out).clips
clipped_by f (commit s ticket) = 0

-- ---- calls one after the other

-- The state that the last of some calls hands back; the one before them where there is none.
unfoldable pub state_after : Frontend → List Call → Frontend
state_after f [] = f
state_after f (c ∷ cs) = state_after (state_by f c) cs

-- The samples that they take, joined in order.
unfoldable pub taken : Frontend → List Call → List Pair
taken f [] = []
taken f (c ∷ cs) = taken_by f c ++ taken (state_by f c) cs

-- What they write, one call's behind the other's.
unfoldable pub written : Frontend → List Call → List ℤ
written f [] = []
written f (c ∷ cs) = written_by f c ++ written (state_by f c) cs

-- How many symbols they count in all, and how many clips.
unfoldable pub counted : Frontend → List Call → ℕ
counted f [] = 0
counted f (c ∷ cs) = counted_by f c + counted (state_by f c) cs

unfoldable pub clipped : Frontend → List Call → ℕ
clipped f [] = 0
clipped f (c ∷ cs) = clipped_by f c + clipped (state_by f c) cs

-- ---- commits

-- A commit that was accepted: how many samples had been taken before it, and its sheet with the banks.
pub record CommitAt : Type 0 where
  pub samples : ℕ
  pub sheet : Sheet

-- Those of one call, with so many samples taken before it: one or none.
abbrev pub committed_by : ℕ → Frontend → Call → List CommitAt
committed_by n f (block s values out) = []
committed_by n f (commit s ticket) = cond (eqb (commit_of s ticket f).refused.number 0) (record { samples = n; sheet = s } ∷ []) []

-- Those of some calls, in order, with so many samples taken before the first.
unfoldable pub commits : ℕ → Frontend → List Call → List CommitAt
commits n f [] = []
commits n f (c ∷ cs) = committed_by n f c ++ commits (n + length (taken_by f c)) (state_by f c) cs

-- ---- lists that keep to their sheets

-- The sheet in force behind a call, of the one before it: a commit that is accepted puts its own there.
abbrev pub sheet_by : Sheet → Frontend → Call → Sheet
sheet_by s f (block t values out) = s
sheet_by s f (commit t ticket) = cond (eqb (commit_of t ticket f).refused.number 0) t s

-- A block that is accepted was given the sheet in force, with its banks.
abbrev pub Keeps : Sheet → Frontend → Call → Type 0
Keeps s f (block t values out) = (block_of t f values out).refused.number ≡ 0 → t ≡ s
Keeps s f (commit t ticket) = Unit {0}

-- Every one of some calls was.
unfoldable pub KeepTo : Sheet → Frontend → List Call → Type 0
KeepTo s f [] = Unit {0}
KeepTo s f (c ∷ cs) = Keeps s f c × KeepTo (sheet_by s f c) (state_by f c) cs

-- ---- of a list that begins with the state that starting gave

abbrev pub start_state : Sheet → Frontend
start_state s = (start_of s).state

abbrev pub end_state : Sheet → List Call → Frontend
end_state s cs = state_after (start_state s) cs

abbrev pub samples_of : Sheet → List Call → List Pair
samples_of s cs = taken (start_state s) cs

abbrev pub places_written : Sheet → List Call → List ℤ
places_written s cs = written (start_state s) cs

abbrev pub symbol_count : Sheet → List Call → ℕ
symbol_count s cs = counted (start_state s) cs

abbrev pub clip_count : Sheet → List Call → ℕ
clip_count s cs = clipped (start_state s) cs

abbrev pub commits_of : Sheet → List Call → List CommitAt
commits_of s cs = commits 0 (start_state s) cs

abbrev pub KeepsToItsSheets : Sheet → List Call → Type 0
KeepsToItsSheets s cs = KeepTo s (start_state s) cs

-- ---- a caller that offers what is left

-- It makes a block under one sheet with each of its outputs, on the values behind those that the blocks before took.
unfoldable pub offers : Sheet → Frontend → List ℤ → List (List ℤ) → List Call
offers s f values [] = []
offers s f values (out ∷ outs) =
    block s values out ∷ offers s (block_of s f values out).state (drop (2 * (block_of s f values out).taken) values) outs
