pub mod Following
pub mod Doubting
pub mod Ending
