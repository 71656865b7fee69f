-- What only the calls inside say to each other.
pub mod Faults
pub mod Inputs
pub mod Telling
