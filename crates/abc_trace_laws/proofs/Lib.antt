pub mod Parts
pub mod PlainTexts
pub mod OneTrace
pub mod Held
pub mod Renumbering
pub mod ReadBack
pub mod Worked
pub mod Answers
