pub mod Turning
pub mod Sizes
