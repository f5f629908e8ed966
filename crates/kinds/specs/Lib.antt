-- What a reader has to believe of kinds: their numbering, which numbers each takes, and how places are refused; and what is answered
-- where places are written.
pub mod Kinds
pub mod Answer
