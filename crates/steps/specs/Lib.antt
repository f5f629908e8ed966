-- What a reader has to believe of the float steps from a design to its registers.
pub mod Steps
