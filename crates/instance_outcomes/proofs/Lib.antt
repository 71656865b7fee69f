mod Alone
mod Counts
mod Instances
pub mod Tallying
