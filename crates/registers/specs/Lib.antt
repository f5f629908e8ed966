-- What a reader has to believe of the six loop registers: how a symbol's errors move them, and a symbol's step on all of them.
pub mod Correct
pub mod Step
