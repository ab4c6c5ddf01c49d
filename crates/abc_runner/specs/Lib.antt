pub mod Commands
pub mod Statuses
pub mod Outcomes
pub mod Networks
pub mod Answers
pub mod Limits
pub mod Laws
