pub mod Barred
pub mod Reading
pub mod Entries
