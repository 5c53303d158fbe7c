pub mod Causes
pub mod Correct
pub mod Fate
pub mod Finding
pub mod Reported
pub mod Source
