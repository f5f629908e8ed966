-- What a reader has to believe of sheets, designs and states as places, and what is claimed of those that cross.
pub mod Refusal
pub mod Sheet
pub mod Rates
pub mod States
pub mod Crossing
