pub mod Counts
pub mod NumberedLines
pub mod ProgramOf
pub mod Slots
pub mod SmallEnds
pub mod SlottedParts
