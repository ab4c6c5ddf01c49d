pub mod Held
pub mod Running
pub mod AbcMeaning
pub mod BodyLaws
pub mod Systems
pub mod AbcLaws
