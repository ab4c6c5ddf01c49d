pub mod Handlings
pub mod Storing
pub mod Stocks
