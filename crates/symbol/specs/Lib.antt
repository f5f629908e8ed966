-- What a reader has to believe of a symbol: what it is made of, and its places in an output.
pub mod Make
pub mod Places
