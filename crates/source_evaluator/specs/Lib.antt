pub mod Work
pub mod Steps
pub mod Views
pub mod Pending
pub mod Evaluating
