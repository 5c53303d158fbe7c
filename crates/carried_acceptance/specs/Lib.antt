pub mod WrittenParts
pub mod SlottedCarried
