mod LoweredSources
mod LoweredExamples
mod LoweredRuns
mod EachConstruct
mod EachContext
pub mod MeetingContexts
pub mod CodeSizes
pub mod StraightCode
pub mod CodeTargets
pub mod LabelsReached
pub mod LabelPositions
pub mod BlockEnds
pub mod StopsFollowed
pub mod PlacesNamed
pub mod BranchesCounted
pub mod NumbersFound
pub mod LoweredFunctions
pub mod EmittedTests
pub mod EmittedBlocks
pub mod NumbersMade
pub mod FunctionsMade
