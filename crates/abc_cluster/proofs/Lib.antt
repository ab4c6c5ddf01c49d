pub mod Arriving
pub mod Copying
