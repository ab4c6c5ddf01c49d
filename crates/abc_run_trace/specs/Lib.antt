pub mod TraceOf
pub mod Telling
pub mod HasTrace
