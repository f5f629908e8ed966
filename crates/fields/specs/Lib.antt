-- What a reader has to believe of a sheet's fields as a state holds them.
pub mod Fields
