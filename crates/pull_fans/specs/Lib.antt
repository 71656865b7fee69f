pub mod Sources
pub mod Fans
pub mod Asks
pub mod Growing
pub mod inside
