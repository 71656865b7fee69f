mod Regular
mod Takes
mod Counting
mod Readings
pub mod Answered
