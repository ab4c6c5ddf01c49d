pub mod Hearing
pub mod Changing
pub mod Preparing
pub mod Casting
pub mod Choosing
pub mod Beginning
pub mod Following
