pub mod LogHelp
pub mod OverHelp
pub mod QuestionHelp
