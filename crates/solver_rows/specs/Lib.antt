pub mod Divisors
pub mod SystemRows
pub mod Signing
pub mod Merging
pub mod RowsInCells
