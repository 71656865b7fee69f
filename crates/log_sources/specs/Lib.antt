pub mod Drafts
pub mod Sources
pub mod Reading
pub mod Laws
pub mod Gathering
pub mod inside
