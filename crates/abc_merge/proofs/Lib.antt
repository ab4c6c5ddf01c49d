pub mod Counting
pub mod Keys
pub mod Known
pub mod OneMerge
pub mod Rows
pub mod Sorted
pub mod Steps
