-- The rule of the wheel.
pub mod Wheel
