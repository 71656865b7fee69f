pub mod Faults
pub mod Helps
pub mod Lines
pub mod Telling
