-- The law that the proofs of this crate cite: what the code's literals are.
pub mod Literals
