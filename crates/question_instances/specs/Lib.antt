pub mod Over
pub mod Instances
pub mod Worked
