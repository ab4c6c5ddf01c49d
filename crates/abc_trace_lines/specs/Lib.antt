pub mod Plain
pub mod Spelled
pub mod Fronts
pub mod Items
pub mod Reading
