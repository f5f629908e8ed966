-- Laws of a number's digits, of the lines that are printed, and of texts put into a buffer.
pub mod Digits
pub mod Lines
pub mod Writing
