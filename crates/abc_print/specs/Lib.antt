pub mod Bytes
pub mod Literals
