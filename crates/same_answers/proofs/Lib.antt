pub mod Judged
pub mod Bare
pub mod Alike
