-- The laws that the proofs of this crate and of the crates above it cite.
pub mod Literals
pub mod Answers
