pub mod Rows
pub mod Ended
pub mod Steps
pub mod Listed
