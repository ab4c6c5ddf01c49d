pub mod Draws
pub mod Counter
pub mod Bounds
pub mod Laws
