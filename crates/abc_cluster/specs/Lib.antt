pub mod Stations
pub mod Rows
