pub mod Laws
pub mod Observed
pub mod inside
