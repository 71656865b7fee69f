pub mod Taking
pub mod Reaching
pub mod Placing
pub mod Assembling
pub mod Ranges
