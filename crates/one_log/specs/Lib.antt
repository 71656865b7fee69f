pub mod Asking
pub mod Calm
pub mod Faults
pub mod LeftOut
pub mod Logging
pub mod inside
