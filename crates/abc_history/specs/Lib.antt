pub mod Histories
pub mod Outs
pub mod Nodes
