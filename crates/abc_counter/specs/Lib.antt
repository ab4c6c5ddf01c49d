pub mod Steps
pub mod Rule
pub mod Counters
pub mod Laws
pub mod Worked
