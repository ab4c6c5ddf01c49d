pub mod Homed
pub mod Onward
