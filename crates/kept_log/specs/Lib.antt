pub mod Kept
pub mod Named
pub mod Keeping
pub mod Unknown
pub mod Laws
pub mod inside
