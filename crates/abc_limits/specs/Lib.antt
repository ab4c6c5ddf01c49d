pub mod Written
pub mod Limiting
pub mod Rooms
pub mod Walking
pub mod FirstLimit
