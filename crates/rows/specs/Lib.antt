-- How the replay programs read numbers and rows, and what they count.
pub mod Rows
pub mod Program
