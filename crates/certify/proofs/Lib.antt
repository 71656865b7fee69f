mod Fronts
mod Certified
mod Accepting
mod FormulaLine
