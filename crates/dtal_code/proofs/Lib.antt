pub mod PlaceWords
pub mod VerifiedPrograms
pub mod ObjectRuns
pub mod ArraySums
pub mod ArraySumText
mod CodeRuns
mod AllocatedWords
pub mod Appended
mod WordBytes
pub mod Codings
pub mod NamedDeclarations
pub mod TypesBelow
