mod Runs
mod FormulaLines
mod HeadLines
pub mod QuestionLines
