pub mod TypesThrough
pub mod LabelsApart
pub mod WellHeaded
pub mod Acceptable
pub mod ReadyCode
