pub mod EmittedSums
pub mod CodePieces
pub mod WordMoves
pub mod TableTypes
