pub mod ProvedRows
pub mod Ways
pub mod CarriedValues
pub mod CarriedTests
pub mod CarriedStatements
pub mod Carried
pub mod Views
