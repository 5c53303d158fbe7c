pub mod BranchEnds
pub mod CompletingBlocks
pub mod KeptPlaces
pub mod Contexts
pub mod Declared
pub mod WaysIn
pub mod BlockParts
pub mod BlockSizes
