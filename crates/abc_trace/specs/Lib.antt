pub mod Lines
pub mod Texts
pub mod WellFormed
pub mod Met
pub mod Examples
