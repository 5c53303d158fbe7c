pub mod EmittedCode
pub mod KindsFound
