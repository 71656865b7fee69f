pub mod Growth
pub mod Blocks
