pub mod Resting
pub mod Soundness
pub mod WorkedRuns
pub mod Speakings
