-- What follows from a sheet's being accepted.
pub mod Faults
pub mod Rows
pub mod RowsOf
pub mod Accepted
