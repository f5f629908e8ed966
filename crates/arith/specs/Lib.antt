-- What a reader has to believe of the path's arithmetic.
pub mod Arith
