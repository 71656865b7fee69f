mod Staying
mod Fronts
