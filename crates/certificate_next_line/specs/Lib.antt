pub mod Coming
pub mod inside
pub mod PassedOn
