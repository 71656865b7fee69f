pub mod Bytes
pub mod Forms
pub mod Heads
pub mod Worked
pub mod inside
