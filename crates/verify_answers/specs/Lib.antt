pub mod Asking
pub mod Telling
pub mod Judging
pub mod inside
