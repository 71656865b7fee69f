pub mod Items
pub mod Dues
pub mod Readings
pub mod Sound
pub mod Orders
pub mod Rising
pub mod Logs
pub mod WholeReadings
