pub mod Unproved
pub mod Answers
