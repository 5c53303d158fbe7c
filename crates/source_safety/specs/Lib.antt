pub mod Values
pub mod Standing
pub mod Whole
pub mod Recorded
