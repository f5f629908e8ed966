-- What a reader has to believe of the state: how it begins, what a call refuses of it, and what can be read of it.
pub mod Start
pub mod Check
pub mod Read
