pub mod Found
pub mod HeldLabels
pub mod Bodies
pub mod Picking
pub mod Steps
pub mod Beginning
