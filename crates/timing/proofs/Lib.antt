-- What is claimed of lists of blocks and commits holds: a list is one run whose sheet may change from sample to sample, such a run has an invariant, and the
-- claims follow from it.
pub mod Errors
pub mod Invariant
pub mod Calls
pub mod Schedule
pub mod Kept
pub mod Forced
pub mod Timing
pub mod GoOn
pub mod Tickets
pub mod Clips
pub mod Advance
pub mod Offers
