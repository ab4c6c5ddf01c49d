pub mod Steps
pub mod SoloRun
