-- Laws of sheets, states and designs as places.
pub mod Readable
pub mod InPairs
pub mod Crossing
pub mod Sheets
pub mod Placed
pub mod Typed
