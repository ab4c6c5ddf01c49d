pub mod Items
pub mod Scanning
