-- The text of the symbol program: fields, lines read, and that reading and printing a number are inverse.
pub mod Fields
pub mod Lines
pub mod Inverse
