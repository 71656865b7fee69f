mod Tallying
pub mod Shown
