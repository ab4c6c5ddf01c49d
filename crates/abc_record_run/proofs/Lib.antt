pub mod Begun
pub mod Legally
