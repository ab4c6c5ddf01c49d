pub mod Turns
pub mod Hearers
pub mod Alike
pub mod Rows
pub mod TurnLaws
pub mod RowLaws
pub mod TurnExamples
pub mod RowExamples
