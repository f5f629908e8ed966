-- What a reader has to believe of designs: the refusals, the registers, and the sheet.
pub mod Refusal
pub mod Registers
pub mod Design
