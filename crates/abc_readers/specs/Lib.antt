pub mod Operands
pub mod Exprs
pub mod Combining
pub mod Preds
pub mod Processes
pub mod Programs
pub mod Laws
