pub mod SampleTransfer
pub mod SampleLine
