pub mod MicroSteps
pub mod Paths
pub mod Merges
pub mod Choices
pub mod Laws
