mod Counts
pub mod Added
pub mod Ranges
pub mod Asked
