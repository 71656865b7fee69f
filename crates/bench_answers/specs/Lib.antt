pub mod Benching
pub mod inside
