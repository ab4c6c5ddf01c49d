pub mod Causes
mod Holding
mod Fronts
mod Verdicts
mod Texts
