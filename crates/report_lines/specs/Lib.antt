pub mod Formula
pub mod Spelling
pub mod Reading
pub mod PassedOn
