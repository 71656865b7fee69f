pub mod Stands
pub mod Dues
