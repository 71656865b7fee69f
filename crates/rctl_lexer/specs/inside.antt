-- What only the calls inside say to each other.
pub mod Front
pub mod Runs
