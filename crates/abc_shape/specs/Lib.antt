pub mod Plans
pub mod Routes
pub mod Laws
