pub mod Passing
pub mod Parts
pub mod Standing
pub mod Lowering
pub mod Keeping
