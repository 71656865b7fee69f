pub mod Filling
pub mod inside
