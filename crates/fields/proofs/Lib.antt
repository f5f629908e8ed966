-- The laws that other crates' proofs cite.
pub mod Same
