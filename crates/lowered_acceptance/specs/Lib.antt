pub mod FormedCode
pub mod SlottedCode
pub mod TextedHeaders
