pub mod Taking
pub mod Questions
pub mod Worked
pub mod inside
