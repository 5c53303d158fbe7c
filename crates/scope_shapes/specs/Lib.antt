pub mod BodiesOf
pub mod Shape
pub mod Statements
pub mod StatementsOf
