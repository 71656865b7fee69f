pub mod Judging
pub mod inside
