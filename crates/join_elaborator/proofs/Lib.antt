pub mod PlaceLists
pub mod JoinFailures
pub mod Marks
pub mod RenewedMarks
