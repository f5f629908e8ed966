-- What a reader has to believe of the tables.
pub mod Wheel
