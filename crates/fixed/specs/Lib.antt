-- What a reader has to believe of the front end, in the order in which a sample travels: through mixer, line, filter and waiting errors to
-- the state after it, then a block of samples. Beside them: what is claimed of the filter's two runs, and of a symbol and the registers; and what
-- the functions inside a block promise one another.
pub mod Mix
pub mod Line
pub mod Filter
pub mod TwoRuns
pub mod Queue
pub mod Sample
pub mod Block
pub mod OneStep
pub mod Raised
pub mod Rows
pub mod Inside
