pub mod Each
pub mod Tokens
pub mod Running
pub mod Steps
pub mod Faults
