pub mod LinkLaws
pub mod Ways
pub mod RouteLaws
pub mod Copies
pub mod CopyLaws
pub mod Flows
