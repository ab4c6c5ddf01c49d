pub mod Reading
pub mod Renaming
pub mod Alone
