pub mod ArgumentValues
