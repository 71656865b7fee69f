pub mod PartLists
pub mod Agreeing
pub mod Texts
pub mod FirstEvents
pub mod FirstPaths
pub mod Witnesses
