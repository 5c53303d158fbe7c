mod Readers
mod PlaceTexts
mod LowerNames
mod ChainedLists
mod ChainLoops
mod SpelledValues
mod ListingLaws
mod SpelledTypes
mod OperandTexts
mod LabelTexts
mod LineWords
mod BodyTexts
mod BlockTexts
pub mod ProgramTexts
mod MoreWords
mod BuiltBlocks
mod ListedPlaces
mod WholePrograms
