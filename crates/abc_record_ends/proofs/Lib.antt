pub mod Closing
pub mod Rows
pub mod Ending
pub mod ByShape
pub mod BothRuns
pub mod Silence
