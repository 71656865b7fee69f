pub mod Checking
pub mod Calm
pub mod Whole
pub mod Inputs
pub mod Asking
pub mod inside
pub mod PassedOn
