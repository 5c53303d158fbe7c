pub mod BlockViews
pub mod Top
