pub mod Rules
pub mod MemberBrackets
pub mod Printing
mod WorkedTexts
