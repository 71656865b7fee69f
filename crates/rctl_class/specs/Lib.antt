pub mod Nodes
pub mod Uses
pub mod NamedParts
pub mod Faults
pub mod Walk
pub mod Counters
pub mod Classed
pub mod inside
