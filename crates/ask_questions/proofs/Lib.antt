pub mod Lists
pub mod Words
mod Texts
mod Observed
