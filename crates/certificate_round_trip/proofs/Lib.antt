mod Alone
pub mod Behind
