-- What a row's numbers stand for.
pub mod Answer
pub mod Banks
