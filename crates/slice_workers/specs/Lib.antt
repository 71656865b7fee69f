pub mod Laws
pub mod Reaching
pub mod Calls
pub mod Views
pub mod Spent
pub mod inside
