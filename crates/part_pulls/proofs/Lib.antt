pub mod Rising
pub mod Readings
pub mod Atoms
pub mod Fitting
pub mod Operators
pub mod Firsts
pub mod Slices
pub mod Taken
