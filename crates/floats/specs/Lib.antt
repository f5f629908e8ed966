-- What a reader has to believe of floats as whole numbers.
pub mod Whole
