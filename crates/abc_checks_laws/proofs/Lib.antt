pub mod Deciding
pub mod Sites
pub mod Reaching
pub mod Finding
