pub mod Asking
pub mod Calm
pub mod Faults
pub mod Viewing
pub mod inside
