-- Lists of blocks and commits, and what is claimed of them.
pub mod Lists
pub mod Timing
