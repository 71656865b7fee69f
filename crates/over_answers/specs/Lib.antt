pub mod Tallies
pub mod PassedOn
pub mod inside
