pub mod VerdictParts
pub mod StepsSame
pub mod StandingStates
pub mod PlacesTurns
