-- What only the calls inside say to each other.
pub mod Searches
pub mod Twins
pub mod Walks
