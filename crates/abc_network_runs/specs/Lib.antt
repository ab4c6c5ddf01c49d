pub mod Turning
pub mod Clocks
pub mod Drawn
pub mod Writing
pub mod LateOutput
pub mod EarlyNumber
