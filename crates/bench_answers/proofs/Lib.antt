pub mod NoFall
pub mod Benching
pub mod Summaries
