pub mod ArgumentLaws
pub mod ForwardSimulation
pub mod Puts
