pub mod Answers
pub mod Rising
