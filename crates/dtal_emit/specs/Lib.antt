pub mod Homes
pub mod Acting
pub mod Emitted
