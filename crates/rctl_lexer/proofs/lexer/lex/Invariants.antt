use Rattle.std.proofs.Common.{◌≡◌, ◌+◌, length}
use Rattle.rctl_lexer.specs.Lexing.{after, lex, lex_from}
use Rattle.rctl_lexer.proofs.lexer.lex.Given as goal

abbrev pub invariant-loop-rest : goal.invariant-loop-rest
invariant-loop-rest l = record { read : after l.tokens (lex_from 0 l.at l.rest) ≡ lex l.fn.text; place : l.at + length l.rest ≡ length l.fn.text }

abbrev pub decreases-loop-rest : goal.decreases-loop-rest
decreases-loop-rest l = length l.rest
