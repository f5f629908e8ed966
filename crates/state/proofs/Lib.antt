-- The laws that the proofs of the functions cite, by subject; they serve the path and the theorem on lists of block calls too.
pub mod Going
pub mod Answers
