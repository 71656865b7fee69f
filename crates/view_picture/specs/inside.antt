-- What only the calls inside say to each other.
pub mod Drawing
pub mod Placing
pub mod Lost
