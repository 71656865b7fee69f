pub mod Taken
pub mod Observed
