pub mod Clocks
pub mod Finding
pub mod Leading
pub mod Making
pub mod GoingOn
pub mod Taking
