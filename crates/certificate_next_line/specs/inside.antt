-- What only the calls inside say to each other.
pub mod Coming
