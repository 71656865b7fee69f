pub mod Laws
pub mod Witnesses
pub mod Reports
pub mod Benches
pub mod PassedOn
