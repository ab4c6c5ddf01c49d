pub mod Times
pub mod Sums
pub mod Kept
pub mod Tables
pub mod Gathered
