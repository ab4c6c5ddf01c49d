pub mod Traceable
pub mod Told
