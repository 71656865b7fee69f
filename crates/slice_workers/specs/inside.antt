-- What only the calls inside say to each other.
pub mod Jobs
pub mod Keeping
pub mod Reaching
pub mod Settling
