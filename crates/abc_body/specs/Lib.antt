pub mod Meanings
pub mod Multicasts
pub mod Tallies
pub mod TallyLaws
pub mod Laws
