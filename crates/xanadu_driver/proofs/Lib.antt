pub mod CauseLaws
pub mod CoreFates
pub mod CountedInstructions
pub mod FateLaws
pub mod Fates
pub mod ParsedAnswers
pub mod WholeSources
