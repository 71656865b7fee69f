pub mod NextPulls
pub mod inside
pub mod PassedOn
