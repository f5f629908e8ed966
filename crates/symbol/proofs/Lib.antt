-- The laws on clips, which the proof of `Symbol::make` cites and those of the block do.
pub mod Clips
