pub mod Standings
pub mod States
pub mod Journals
pub mod Ways
pub mod Members
pub mod Conditions
pub mod Settlings
