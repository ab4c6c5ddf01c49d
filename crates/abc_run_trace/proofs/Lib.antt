pub mod Closed
pub mod Made
pub mod Written
pub mod Formed
pub mod HaveTraces
