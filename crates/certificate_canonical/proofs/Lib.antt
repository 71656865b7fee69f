mod Keeping
pub mod Following
pub mod OneText
