-- What those above read by this crate of the ones below it.
pub use Rattle.rctl_lexer.specs.Lexing.{lex}
pub use Rattle.rctl_lexer.specs.declared.lexer.Lexed.{Lexed}
