-- The laws that the proofs of the functions cite, by subject; those on runs, clips, states and refusals serve the theorem on lists of block calls too
-- (crates/timing).
pub mod Runs
pub mod Clips
pub mod Refused
pub mod States
pub mod Mixer
pub mod OneStep
pub mod Paired
pub mod Parts
pub mod RowSums
pub mod Centre
pub mod PhaseRows
pub mod TwoRuns
pub mod Shares
pub mod Ready
pub mod Turns
