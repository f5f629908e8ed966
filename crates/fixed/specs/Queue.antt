-- The waiting errors: a ring, the oldest's position, and how many wait.
-- (RULES 3.6)
use Rattle.std.specs.Prelude.{ℕ, ◌+◌, ◌%◌, Bool, cond, List, slice_index_or, slice_set}
use Rattle.params.specs.declared.Params.{Params}
use Rattle.registers.specs.declared.Pending.{Pending}
use Rattle.registers.specs.Step.{is_due}
use Rattle.state.specs.declared.Frontend.{Frontend}
use Rattle.state.specs.Start.{ring_places, no_pending}

-- As many wait as the loop's delay, so the oldest are due.
abbrev pub oldest_due : Params → Frontend → Bool
oldest_due p f = is_due p.delay f.waiting

-- The errors that wait longest.
abbrev pub oldest_errors : Frontend → Pending
oldest_errors f = slice_index_or f.pending f.oldest no_pending

-- The ring once new errors joined behind the newest. Where as many wait as the ring has places, that is the place that the oldest leave.
abbrev pub queued_errors : Frontend → Pending → List Pending
queued_errors f w = slice_set f.pending ((f.oldest + f.waiting) % ring_places) w

-- Where the oldest then stand, and how many wait: as many as before where the oldest left.
abbrev pub next_oldest : Params → Frontend → ℕ
next_oldest p f = cond (oldest_due p f) ((f.oldest + 1) % ring_places) f.oldest

abbrev pub next_waiting : Params → Frontend → ℕ
next_waiting p f = cond (oldest_due p f) f.waiting (f.waiting + 1)
