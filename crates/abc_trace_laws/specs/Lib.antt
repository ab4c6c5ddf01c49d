pub mod Plain
pub mod Renumbered
pub mod Laws
pub mod Examples
