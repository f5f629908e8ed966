-- What a reader has to believe of the calls: what each answers, whose refusal it hands on, and what is claimed of a sheet that a design's call wrote.
pub mod Refusal
pub mod Calls
pub mod Source
pub mod Made
