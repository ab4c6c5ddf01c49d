pub mod Stepping
pub mod Handled
pub mod LegalTells
pub mod RecordRun
