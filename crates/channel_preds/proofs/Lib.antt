pub mod Counting
pub mod Reaching
pub mod Tables
pub mod Growing
pub mod Meaning
