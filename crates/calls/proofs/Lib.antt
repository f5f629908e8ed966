-- Laws of the calls' answers.
pub mod Numbers
pub mod NoState
pub mod Fitting
pub mod Committed
pub mod Answers
pub mod Made
