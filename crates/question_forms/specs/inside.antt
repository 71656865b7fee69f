-- What only the calls inside say to each other.
pub mod Splits
pub mod Asked
pub mod Refused
