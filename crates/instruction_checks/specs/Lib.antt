pub mod Code
pub mod Views
pub mod Proving
pub mod Steps
