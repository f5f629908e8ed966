-- What a reader has to believe of a retune: its refusals by their numbers, what asking answers, and what committing changes.
pub mod Refusal
pub mod Retune
