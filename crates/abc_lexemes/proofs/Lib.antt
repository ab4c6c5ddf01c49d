pub mod Meant
pub mod Counted
pub mod SoFar
pub mod NewWords
