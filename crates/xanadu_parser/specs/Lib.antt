pub mod Statements
pub mod Declarations
pub mod Kinds
pub mod Parsing
pub mod Faults
