pub mod Existing
pub mod Put
pub mod Short
pub mod Building
pub mod Closing
pub mod Widths
pub mod Counts
pub mod Sounding
