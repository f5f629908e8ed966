-- The laws that the proofs of this crate and of every crate above it cite, a file for each subject: on ℤ, on tests, and on arrays that a loop fills.
pub mod Magnitude
pub mod Order
pub mod Signs
pub mod Products
pub mod Bits
pub mod Rounding
pub mod Nearest
pub mod Modulus
pub mod Widths
pub mod Tested
pub mod Held
pub mod Narrowed
pub mod Both
pub mod Filled
