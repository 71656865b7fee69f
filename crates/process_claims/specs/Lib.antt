pub mod Claims
pub mod Views
pub mod inside
