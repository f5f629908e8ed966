-- Laws of tests and of floats by their bits that the proofs share.

mod Patterns
