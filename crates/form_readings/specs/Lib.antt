pub mod Clocks
pub mod Sources
