pub mod Imports
pub mod Merging
pub mod Origins
