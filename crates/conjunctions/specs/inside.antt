-- What only the calls inside say to each other.
pub mod Answering
pub mod Asked
pub mod Beginning
pub mod Gathering
pub mod Joining
pub mod Numbering
pub mod Settling
