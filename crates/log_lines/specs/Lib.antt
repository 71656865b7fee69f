pub mod Names
pub mod Spelling
pub mod Reading
pub mod Drafts
pub mod inside
pub mod PassedOn
