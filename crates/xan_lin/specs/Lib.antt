pub mod Terms
pub mod Linear
pub mod Value
pub mod Text
pub mod Wide
pub mod Subst
pub mod Products
pub mod Same
