pub mod Laws
pub mod Again
pub mod Chain
pub mod Steps
pub mod Exact
