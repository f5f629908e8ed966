-- The laws that the proofs of the functions cite, and those on lists of calls.
pub mod Answers
