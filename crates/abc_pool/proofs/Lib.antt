pub mod Walks
pub mod Links
pub mod Chains
pub mod Pools
