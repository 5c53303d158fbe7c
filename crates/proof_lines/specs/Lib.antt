pub mod Rows
pub mod Variables
pub mod Lines
pub mod Check
pub mod Cells
pub mod Code
pub mod Spelling
pub mod Reading
