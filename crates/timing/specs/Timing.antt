-- What holds of every list of blocks and commits from a fresh start, refused ones among them, and of every two such lists from one start.
-- The claims are about the places that the calls wrote and the states that they handed back, and nothing in them is left abstract.
-- (RULES 5.2 to 5.4)
use Rattle.std.specs.Prelude.{ℕ, ◌+◌, ◌*◌, ◌/◌, ◌%◌, ◌≤◌, ◌<◌, ◌≡◌, ◌⊎◌, cond, List, [], ◌∷◌, leb, length, get_or, ℤ, pos, ◌+ℤ◌, ◌*ℤ◌, ◌≤ℤ◌}
use Rattle.std.specs.Int.Signed.{shr_z}
use Rattle.params.specs.Refusal.{nothing}
use Rattle.params.specs.Judge.{Sheet, judged}
use Rattle.state.specs.declared.Pair.{Pair}
use Rattle.state.specs.Start.{no_pair, start_of}
use Rattle.state.specs.declared.Frontend.{Frontend}
use Rattle.state.specs.Read.{read_of}
use Rattle.retune.specs.Retune.{ask_of, commit_of}
use Rattle.fixed.specs.Filter.{sum_to}
use Rattle.fixed.specs.Block.{pairs_of, block_of}
use Rattle.timing.specs.Lists.{Call, block, commit, CommitAt, state_after, taken, counted, offers}
use Rattle.timing.specs.Lists.{end_state, samples_of, places_written, symbol_count, clip_count, commits_of, KeepsToItsSheets}

-- ---- of the places that were written

-- Place j of symbol k, whose places are 20 k to 20 k + 19.
abbrev pub place_at : List ℤ → ℕ → ℕ → ℤ
place_at places k j = get_or places (20 * k + j) (pos 0)

abbrev pub sample_at : List ℤ → ℕ → ℤ
sample_at places k = place_at places k 0

abbrev pub phase_at : List ℤ → ℕ → ℤ
phase_at places k = place_at places k 1

abbrev pub gain_at : List ℤ → ℕ → ℤ
gain_at places k = place_at places k 8

abbrev pub period_at : List ℤ → ℕ → ℤ
period_at places k = place_at places k 9

-- The sum of the periods of the symbols before symbol k.
abbrev pub periods_before : List ℤ → ℕ → ℤ
periods_before places k = sum_to (period_at places) k

-- ---- the claims on one list

module _ (s : Sheet) (cs : List Call) where
  -- What was written is whole symbols, as many as were counted.
  abbrev pub Whole : Type 0
  Whole = length (places_written s cs) ≡ 20 * symbol_count s cs

  -- 1. Symbol k lies where the periods before it say: sample × 64 + phase is their sum in 64ths of a sample, rounded down.
  abbrev pub Place : ℕ → Type 0
  Place k = sample_at (places_written s cs) k *ℤ pos 64 +ℤ phase_at (places_written s cs) k ≡ shr_z (periods_before (places_written s cs) k) 262144

  -- 2. Symbols k and k + 1 lie one to four samples apart.
  abbrev pub Apart : ℕ → Type 0
  Apart k =
      ((sample_at (places_written s cs) k +ℤ pos 1) ≤ℤ sample_at (places_written s cs) (k + 1))
      × (sample_at (places_written s cs) (k + 1) ≤ℤ (sample_at (places_written s cs) k +ℤ pos 4))

  -- 3. All periods sum to the samples taken and a rest from 0 to 67,108,863, which is the end state's time to the next symbol.
  abbrev pub Rest : Type 0
  Rest =
      (periods_before (places_written s cs) (symbol_count s cs) ≡ pos (length (samples_of s cs) * 16777216) +ℤ (end_state s cs).registers.t_acc)
      × (pos 0 ≤ℤ (end_state s cs).registers.t_acc) × ((end_state s cs).registers.t_acc ≤ℤ pos 67108863)

-- ---- the claims on two lists

-- Two sequences agree up to sample n: both have it, and every sample up to it is the same.
pub record AgreeUpTo (n : ℕ) (xs ys : List Pair) : Type 0 where
  pub here : n < length xs
  pub there : n < length ys
  pub same : (m : ℕ) → m ≤ n → get_or xs m no_pair ≡ get_or ys m no_pair

-- The commits behind at most n samples: those that were made before sample n or an earlier one.
unfoldable pub up_to : ℕ → List CommitAt → List CommitAt
up_to n [] = []
up_to n (m ∷ ms) = cond (leb m.samples n) (m ∷ up_to n ms) (up_to n ms)

-- Two lists from one start are alike: each keeps to its sheets, and the accepted commits of both are the same, in order, behind as many samples.
abbrev pub Alike : Sheet → List Call → List Call → Type 0
Alike s cs ds = KeepsToItsSheets s cs × KeepsToItsSheets s ds × (commits_of s cs ≡ commits_of s ds)

-- Symbol k is the same in both, in the four places that the loop decides.
pub record SameTiming (a b : List ℤ) (k : ℕ) : Type 0 where
  pub sample : sample_at a k ≡ sample_at b k
  pub phase : phase_at a k ≡ phase_at b k
  pub period : period_at a k ≡ period_at b k
  pub gain : gain_at a k ≡ gain_at b k

module _ (s : Sheet) (cs ds : List Call) where
  -- 4. The second list has symbols 0 to i too, place for place. What the loop decides is the same up to the start's delay further, in every symbol k that both
  -- have and up to whose sample m in the first the commits are the same.
  pub record Delayed (i : ℕ) : Type 0 where
    pub has : i < symbol_count s ds
    pub same : (k : ℕ) → k ≤ i → (j : ℕ) → j < 20 → place_at (places_written s cs) k j ≡ place_at (places_written s ds) k j
    pub ahead : (k m : ℕ) → k ≤ i + s.params.delay → k < symbol_count s cs → k < symbol_count s ds → sample_at (places_written s cs) k ≡ pos m
        → up_to m (commits_of s cs) ≡ up_to m (commits_of s ds) → SameTiming (places_written s cs) (places_written s ds) k

  -- 5. The same symbols, place for place, as many clips in all, and the same end state, field for field, the held sheet's among them.
  pub record SameRun : Type 0 where
    pub count : symbol_count s cs ≡ symbol_count s ds
    pub clips : clip_count s cs ≡ clip_count s ds
    pub places : places_written s cs ≡ places_written s ds
    pub state : end_state s cs ≡ end_state s ds

-- ---- the theorem

pub record Timing (s : Sheet) : Type 0 where
  pub whole : (cs : List Call) → Whole s cs
  pub place : (cs : List Call) (k : ℕ) → k < symbol_count s cs → Place s cs k
  pub apart : (cs : List Call) (k : ℕ) → k + 1 < symbol_count s cs → Apart s cs k
  pub rest : (cs : List Call) → Rest s cs
  -- errors act as many symbols later as the delay says and never sooner: the two lists' samples and their commits agree up to symbol i's own sample in the
  -- first, whatever samples come later; what is asked of later commits stands in `Delayed`
  pub delayed : (cs ds : List Call) (i n : ℕ) → KeepsToItsSheets s cs → KeepsToItsSheets s ds
      → i < symbol_count s cs → sample_at (places_written s cs) i ≡ pos n
      → AgreeUpTo n (samples_of s cs) (samples_of s ds) → up_to n (commits_of s cs) ≡ up_to n (commits_of s ds) → Delayed s cs ds i
  -- how the samples are cut into blocks, and what was refused between them, changes nothing
  pub cuts : (cs ds : List Call) → Alike s cs ds → samples_of s cs ≡ samples_of s ds → SameRun s cs ds

-- All of it holds for every sheet and banks of which starting refuses nothing.
abbrev pub TimingHolds : Type 0
TimingHolds = (s : Sheet) → (start_of s).refused ≡ nothing → Timing s

-- A corollary, of lists that are alike: ahead of symbol i nothing is left to ask of commits.
abbrev pub AlikeAhead : Type 0
AlikeAhead =
    (s : Sheet) → (start_of s).refused ≡ nothing → (cs ds : List Call) → Alike s cs ds → (i n k : ℕ) → i < symbol_count s cs
    → sample_at (places_written s cs) i ≡ pos n → AgreeUpTo n (samples_of s cs) (samples_of s ds) → k ≤ i + s.params.delay → k < symbol_count s cs
    → k < symbol_count s ds → SameTiming (places_written s cs) (places_written s ds) k

-- And one of lists without commits, in which all calls are blocks under the sheet and the banks of the start: they are alike.
abbrev pub Plain : Sheet → List Call → Type 0
Plain s [] = Unit {0}
Plain s (block t values out ∷ cs) = (t ≡ s) × Plain s cs
Plain s (commit t ticket ∷ cs) = ⊥

abbrev pub WithoutCommits : Type 0
WithoutCommits = (s : Sheet) (cs ds : List Call) → Plain s cs → Plain s ds → Alike s cs ds

-- ---- what can be refused in a list

-- Behind a list, under a sheet and banks that judging accepts: where the state that the list hands back holds this sheet, only 10, 11 and 12 can refuse a
-- block, and nothing a reading; where it holds another one, both are refused by 9.
pub record Continues (f : Frontend) (t : Sheet) : Type 0 where
  pub blocks : t.params ≡ f.params → (values out : List ℤ)
      → let n : ℕ = (block_of t f values out).refused.number in (n ≡ 0) ⊎ ((10 ≤ n) × (n ≤ 12))
  pub reads : t.params ≡ f.params → (read_of t f).refused.number ≡ 0
  pub other-blocks : (t.params ≡ f.params → ⊥) → (values out : List ℤ) → (block_of t f values out).refused.number ≡ 9
  pub other-reads : (t.params ≡ f.params → ⊥) → (read_of t f).refused.number ≡ 9

abbrev pub StatesGoOn : Type 0
StatesGoOn = (s : Sheet) → (start_of s).refused ≡ nothing → (cs : List Call) (t : Sheet) → judged t ≡ nothing → Continues (end_state s cs) t

-- A ticket holds until the next symbol, on any state: behind an accepted ask and calls that make no symbol, committing the same sheet and banks is accepted.
abbrev pub TicketsHold : Type 0
TicketsHold =
    (f : Frontend) (t : Sheet) (cs : List Call) → (ask_of t f).refused.number ≡ 0 → counted f cs ≡ 0
    → (commit_of t (ask_of t f).ticket (state_after f cs)).refused.number ≡ 0

-- ---- how many clips there can be

-- A block counts twelve at most for each symbol that it wrote, whatever the sheet and the state.
-- (RULES 4.2)
abbrev pub ClipsFew : Type 0
ClipsFew = (s : Sheet) (f : Frontend) (values out : List ℤ) → (block_of s f values out).clips ≤ 12 * (block_of s f values out).count

-- ---- what a caller can count on that is given a short output

-- A block takes no more pairs than it is given, and if it is given one and refuses nothing, it takes one at least, whatever the sheet and the state.
pub record Advances (s : Sheet) (f : Frontend) (values out : List ℤ) : Type 0 where
  pub given : (block_of s f values out).taken ≤ length (pairs_of values)
  pub some : (block_of s f values out).refused.number ≡ 0 → 0 < length (pairs_of values) → 0 < (block_of s f values out).taken

abbrev pub CallsAdvance : Type 0
CallsAdvance = (s : Sheet) (f : Frontend) (values out : List ℤ) → Advances s f values out

-- So a caller that offers what is left, behind any list and under a sheet that its end state holds, comes to an end: with whole pairs that can be counted, 20
-- places or more each time and as many blocks as pairs, all of them are taken, each once and in their order.
abbrev pub OffersEnd : Type 0
OffersEnd =
    (s : Sheet) → (start_of s).refused ≡ nothing → (cs : List Call) (t : Sheet) → judged t ≡ nothing → t.params ≡ (end_state s cs).params
    → (values : List ℤ) (outs : List (List ℤ)) → length values % 2 ≡ 0 → (end_state s cs).samples + length values / 2 ≤ 9223372036854775807
    → ((n : ℕ) → n < length outs → 20 ≤ length (get_or outs n [])) → length values / 2 ≤ length outs
    → taken (end_state s cs) (offers t (end_state s cs) values outs) ≡ pairs_of values
