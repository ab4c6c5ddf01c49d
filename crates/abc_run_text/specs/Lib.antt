pub mod TextOf
pub mod SoloTexts
