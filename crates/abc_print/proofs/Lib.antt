pub mod Joined
pub mod LiteralBytes
pub mod WordBytes
pub mod TermBytes
pub mod ProcessBytes
pub mod ProgramBytes
