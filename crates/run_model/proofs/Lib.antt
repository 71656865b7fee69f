pub mod Counts
pub mod Orders
pub mod Paths
pub mod SliceLemmas
pub mod EdgeLemmas
pub mod RelationLemmas
pub mod TraceLemmas
