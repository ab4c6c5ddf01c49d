pub mod Written
pub mod NoTuples
pub mod Passing
pub mod LimitLaws
pub mod Crowds
pub mod Walks
pub mod WalkLaws
