-- What a reader has to believe of the input sample.
pub mod Input
pub mod Refusal
