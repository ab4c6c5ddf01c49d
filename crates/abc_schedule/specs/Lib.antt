pub mod Schedules
pub mod Shapes
pub mod Machines
pub mod Legal
pub mod Laws
pub mod Wrong
