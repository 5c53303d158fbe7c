pub mod Answers
pub mod Causes
pub mod Promises
pub mod Report
pub mod Stops
pub mod VerifiedTexts
pub mod Words
