pub mod Code
pub mod Links
