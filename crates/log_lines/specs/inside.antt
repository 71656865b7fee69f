-- What only the calls inside say to each other.
pub mod Drafts
pub mod Frames
