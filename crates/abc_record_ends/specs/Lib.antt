pub mod Ends
pub mod ProgramEnds
pub mod BothEnds
