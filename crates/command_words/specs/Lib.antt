pub mod Rule
pub mod Request
pub mod Numbers
pub mod ByClap
pub mod Seen
pub mod inside
