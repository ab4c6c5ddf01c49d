pub mod Waits
pub mod Changes
pub mod Windows
pub mod Laws
