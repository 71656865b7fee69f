pub mod Asking
pub mod Verifying
pub mod Exactness
pub mod PassedOn
