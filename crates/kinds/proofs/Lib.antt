-- Laws of kinds: which numbers fit which types, places that were looked at, and answers over places.
pub mod OfKind
pub mod Readable
pub mod Answered
