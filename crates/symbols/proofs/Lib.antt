-- What a call that refuses nothing takes, and where a line that has ended stands.
pub mod Lines
pub mod Taken
