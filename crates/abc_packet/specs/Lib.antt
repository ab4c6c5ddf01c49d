pub mod Packets
pub mod Carried
pub mod Logs
pub mod Outlets
pub mod Laws
