pub mod Counters
pub mod Falls
pub mod Laws
pub mod Truth
pub mod inside
