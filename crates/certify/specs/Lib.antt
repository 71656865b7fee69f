pub mod Certifying
pub mod inside
