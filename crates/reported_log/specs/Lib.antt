pub mod Aims
pub mod Checking
pub mod PassedOn
