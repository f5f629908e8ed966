-- What a reader has to believe of a recording's lines, and of the places of their numbers.
pub mod Lines
pub mod Places
