pub mod Raising
pub mod Running
