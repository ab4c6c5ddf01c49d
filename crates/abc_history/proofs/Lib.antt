pub mod Noting
pub mod Left
