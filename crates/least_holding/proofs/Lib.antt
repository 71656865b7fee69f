pub mod Asked
pub mod Least
