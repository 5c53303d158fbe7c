pub mod CarriedLoops
pub mod RowsPushed
pub mod BranchesCarried
pub mod CarriedWhole
