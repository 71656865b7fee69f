mod Parts
mod Held
pub mod Listed
