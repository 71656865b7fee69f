pub mod inside
pub mod PassedOn
