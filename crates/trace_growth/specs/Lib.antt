pub mod Growing
pub mod Laws
pub mod inside
pub mod PassedOn
