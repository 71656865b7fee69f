pub mod Question
pub mod Asking
pub mod Worked
