pub mod Branches
pub mod ShapedBodies
pub mod ShapedClauses
pub mod ShapedPlaces
pub mod ShapedPrograms
pub mod ShapedStatements
pub mod Zips
