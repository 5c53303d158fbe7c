pub mod ContextVariables
pub mod BranchSides
