pub mod Choices
pub mod FollowingParts
pub mod ShapedExpressions
pub mod ShapedKinds
pub mod ShapedOperands
pub mod ShapedTests
