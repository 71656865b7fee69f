pub mod Answering
pub mod Saying
pub mod Sizes
