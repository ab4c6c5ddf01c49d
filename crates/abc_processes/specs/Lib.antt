pub mod Answers
pub mod Processes
