pub mod ZeroCoefficients
pub mod RoundRows
pub mod VariablesLeft
pub mod ShownLooks
pub mod EndedRounds
