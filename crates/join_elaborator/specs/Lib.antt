pub mod Changed
pub mod JoinViews
