pub mod Backs
pub mod Single
pub mod Search
pub mod Marks
pub mod Flows
pub mod Nodes
