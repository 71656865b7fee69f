pub mod Batches
pub mod Taken
