pub mod Built
pub mod Sound
pub mod Walks
pub mod SoundLaws
