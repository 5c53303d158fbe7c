pub mod Expressions
pub mod NodesOf
pub mod Sites
pub mod SitesOf
