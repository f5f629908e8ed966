-- How numbers and lines are read, and that reading and printing a number are inverse.
pub mod Ends
pub mod Inverse
pub mod Reading
pub mod Splitting
