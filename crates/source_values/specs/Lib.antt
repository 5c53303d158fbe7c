pub mod Tags
pub mod Halts
pub mod Values
pub mod Variables
pub mod Placing
