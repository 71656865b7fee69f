pub mod Canonical
pub mod PassedOn
