pub mod Asking
pub mod Told
pub mod inside
pub mod PassedOn
