pub mod WrittenCells
pub mod Unset
