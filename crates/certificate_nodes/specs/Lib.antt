pub mod Plans
pub mod Given
pub mod Nodes
