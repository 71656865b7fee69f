-- What only the calls inside say to each other.
pub mod Admitted
pub mod BatchPlaces
pub mod Events
pub mod Met
pub mod Nodes
pub mod Rising
pub mod Sound
