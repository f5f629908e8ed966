-- What a reader has to believe of the offset.
pub mod Offset
