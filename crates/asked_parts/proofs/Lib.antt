pub mod Spelling
pub mod Making
