-- The laws that the proofs of the functions cite, by subject; those on the loop serve the path and the theorem on lists of block calls too.
pub mod Integrator
pub mod Loops
