pub mod Indented
pub mod Lines
pub mod Text
pub mod OverText
pub mod Documents
