pub mod CodedWords
pub mod Acting
pub mod Stacks
pub mod Steps
pub mod Kept
pub mod Placing
pub mod Loading
