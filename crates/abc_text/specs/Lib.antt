pub mod Words
pub mod Tokens
pub mod Meanings
pub mod Spelling
pub mod Laws
pub mod Worked
