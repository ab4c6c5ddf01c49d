pub mod Rows
pub mod Ending
pub mod Texts
pub mod OneNumbering
pub mod AlikePrograms
pub mod OneAnswer
pub mod SoloTelling
pub mod NetworkTelling
