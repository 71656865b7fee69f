pub mod Settling
pub mod Looks
