pub mod TextSteps
pub mod TextLens
pub mod Scans
pub mod TextBytes
pub mod Numbering
