mod Standing
mod Halves
