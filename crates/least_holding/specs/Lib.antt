pub mod Least
pub mod inside
