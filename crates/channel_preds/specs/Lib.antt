pub mod Channels
pub mod Laws
pub mod Truth
pub mod inside
