-- What a reader has to believe of the sheet: the refusals, the banks, and judging.
pub mod Refusal
pub mod Banks
pub mod Judge
