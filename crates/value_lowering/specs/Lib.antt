pub mod Frames
pub mod OneInstruction
pub mod ValueCode
pub mod ChainParts
