-- What only the calls inside say to each other.
pub mod Observing
pub mod Telling
pub mod Writing
