pub mod Counters
pub mod Following
pub mod Steps
mod Whole
pub mod HandingOver
