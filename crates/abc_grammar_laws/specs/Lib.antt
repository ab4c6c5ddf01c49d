pub mod Crowding
pub mod Short
pub mod Numbered
pub mod Marks
pub mod Meeting
pub mod NamePlaces
