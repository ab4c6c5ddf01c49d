pub mod Texts
pub mod Lines
pub mod Order
pub mod Reading
pub mod Laws
