pub mod Homed
pub mod Linked
pub mod Asked
