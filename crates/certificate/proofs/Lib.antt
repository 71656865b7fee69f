mod Standing
mod Meaning
mod Disjuncts
mod Fitting
pub mod OneSlice
mod Parts
mod Steps
mod Runs
