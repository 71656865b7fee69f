pub mod Atoms
pub mod Settling
