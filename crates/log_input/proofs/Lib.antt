pub mod Lines
pub mod Wholes
pub mod Texts
pub mod Stands
