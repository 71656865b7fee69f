pub mod Torn
pub mod Laws
