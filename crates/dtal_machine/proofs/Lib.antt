mod StoreBlocks
mod ListedWords
mod ReadPlaces
mod Frames
mod SimpleEffects
mod SimpleSteps
mod AdvancedRuns
mod PlacedArguments
mod CodedPrograms
mod KeptRuns
mod EntryValues
mod MainEntry
pub mod DrivenMachines
