pub mod Items
pub mod Counts
pub mod Needs
pub mod Torn
pub mod TornLogs
pub mod Sends
pub mod Rounds
