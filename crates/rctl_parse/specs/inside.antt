-- What only the calls inside say to each other.
pub mod Limits
pub mod Parts
pub mod Prefixes
pub mod Reading
