pub mod Each
pub mod Parts
pub mod Naming
pub mod About
pub mod Series
pub mod inside
