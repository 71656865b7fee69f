-- What only the calls inside say to each other.
pub mod Asking
pub mod Finding
