pub mod InTurn
pub mod Longer
pub mod Turns
