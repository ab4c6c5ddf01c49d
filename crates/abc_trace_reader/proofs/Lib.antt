pub mod Items
pub mod Rooms
pub mod Onward
pub mod Stepping
