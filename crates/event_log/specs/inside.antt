-- What only the calls inside say to each other.
pub mod Before
pub mod Feeding
pub mod Lines
pub mod Moments
pub mod Numbers
pub mod Places
pub mod States
