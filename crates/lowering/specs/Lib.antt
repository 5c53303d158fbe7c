pub mod TestCode
pub mod StatementCode
pub mod Lowered
pub mod CodeBlocks
pub mod TestLeaves
pub mod Emitted
