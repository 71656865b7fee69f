pub mod Lines
pub mod Instances
pub mod Laws
