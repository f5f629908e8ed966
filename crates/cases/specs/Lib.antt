-- The worked cases of the definitions.
pub mod Sheet
pub mod Rates
pub mod Retuned
pub mod Worked
