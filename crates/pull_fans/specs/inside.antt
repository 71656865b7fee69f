-- What only the calls inside say to each other.
pub mod Asks
pub mod Fans
pub mod First
pub mod Growing
pub mod Layouts
pub mod Places
pub mod Sources
