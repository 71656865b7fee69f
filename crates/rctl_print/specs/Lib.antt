pub mod Canonical
pub mod inside
