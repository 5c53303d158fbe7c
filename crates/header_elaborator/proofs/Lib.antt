pub mod WalkParts
pub mod StrayTests
pub mod Lists
pub mod FormFacts
