pub mod Outcome
pub mod Reading
pub mod inside
pub mod PassedOn
