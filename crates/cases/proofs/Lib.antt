-- The worked cases hold.
pub mod Worked
