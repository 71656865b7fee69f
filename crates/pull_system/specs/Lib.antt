pub mod Laws
pub mod Vector
pub mod System
pub mod Pulls
pub mod Rows
pub mod Growth
pub mod Marks
