pub mod Fronting
pub mod Reading
pub mod Items
pub mod Programs
pub mod WholeTexts
