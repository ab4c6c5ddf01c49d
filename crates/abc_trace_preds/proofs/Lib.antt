pub mod Renamed
pub mod Bounds
pub mod Words
pub mod Sents
pub mod Stay
pub mod Numbers
pub mod Values
pub mod Found
