pub mod Sources
mod GoalExamples
pub mod LimitedAnswers
pub mod TypeKinds
pub mod FitMatches
pub mod KnownTypes
pub mod FitStates
pub mod FitRules
pub mod FitConstructs
pub mod FitOperands
pub mod FitTests
pub mod FitJoins
pub mod FitStatements
pub mod FitPrograms
mod RunSources
mod RunExamples
mod AlikeAnswers
mod AlikeOperands
mod AlikeStatements
mod AlikeCalls
pub mod GivenNamed
pub mod NamedStates
pub mod NamedOperands
pub mod NamedJoins
pub mod NamedStatements
pub mod NamedPrograms
pub mod Continued
pub mod GrownContexts
pub mod GrownOperands
pub mod GrownTests
pub mod GrownJoins
pub mod GrownStatements
pub mod GrowthLaws
pub mod RowsSoFar
pub mod SegmentsFound
pub mod FollowedApplied
pub mod SeparateStores
pub mod FreeBounds
pub mod PrintedMore
pub mod FunctionsFound
