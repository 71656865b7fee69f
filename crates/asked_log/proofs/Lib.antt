pub mod Observed
pub mod Headers
pub mod Logged
