pub mod NumberTests
pub mod RisingKeys
