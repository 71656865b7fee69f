pub mod OneRun
pub mod Laws
