pub mod Members
pub mod Turns
pub mod Saying
pub mod Casts
pub mod Systems
pub mod Running
pub mod Runs
pub mod RunLaws
