-- What only the calls inside say to each other.
pub mod Numbers
pub mod Resolving
pub mod Seen
