-- What a reader has to believe of printing: numbers, and the lines of the symbol program.
pub mod Number
pub mod Print
