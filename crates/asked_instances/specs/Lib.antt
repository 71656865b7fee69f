pub mod Instances
pub mod inside
