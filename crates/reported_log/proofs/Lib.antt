mod Kept
mod Going
mod Reports
pub mod PassedOn
