pub mod FaultyLine
pub mod Inputs
pub mod Places
pub mod Readings
pub mod inside
