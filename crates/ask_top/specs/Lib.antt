pub mod Answers
pub mod Asking
pub mod Calm
pub mod Documents
pub mod inside
