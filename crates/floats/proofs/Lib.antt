-- What the library's rounding of a float is to the rule's, how a float is rounded by doubling it, and how a cast to few bits is made of one to many.
pub mod Doubled
pub mod Rounded
pub mod Halved
pub mod Narrow
