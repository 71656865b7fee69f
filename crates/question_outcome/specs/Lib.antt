pub mod Outcomes
pub mod Worked
