-- What only the calls inside say to each other.
pub mod Hosts
pub mod Made
pub mod Reading
pub mod Scans
