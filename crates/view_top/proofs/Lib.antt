pub mod Lines
pub mod Whole
pub mod Pieces
pub mod Outcomes
mod Calm
