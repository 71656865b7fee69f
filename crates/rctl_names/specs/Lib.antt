pub mod Laws
pub mod Numbers
pub mod Seen
pub mod Resolving
pub mod inside
