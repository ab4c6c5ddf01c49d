pub mod Rising
pub mod Sendings
