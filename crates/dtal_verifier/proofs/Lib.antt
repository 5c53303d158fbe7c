pub mod RefusedPlaces
pub mod AloneTurns
pub mod AddedNames
pub mod SignaturesTurns
pub mod WalksSame
pub mod DeclaredNames
pub mod VerdictLaws
