pub mod ApartHomes
pub mod FollowedRuns
pub mod EmittedRanges
