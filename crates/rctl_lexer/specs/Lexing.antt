-- The tokens of a text, and what ends them.
use Rattle.std.specs.Prelude.{ℕ, zero, suc, ◌≡◌, ◌+◌, ◌<◌, ◌≤◌, List, [], ◌∷◌, ◌++◌}
use Rattle.rctl_grammar.specs.declared.token.Token.{Token}
use Rattle.rctl_grammar.specs.declared.token.End.{End}
use Rattle.rctl_grammar.specs.declared.token.End.TheVariants as end_is
use Rattle.rctl_lexer.specs.declared.front.Front.{Front}
use Rattle.rctl_lexer.specs.declared.front.Front.TheVariants as at_front
use Rattle.rctl_lexer.specs.declared.lexer.Lexed.{Lexed}
use Rattle.rctl_lexer.specs.Front.{front}

-- these tokens, and then the others
abbrev pub after : List Token → Lexed → Lexed
after tokens more = record { tokens = tokens ++ more.tokens; end = more.end }

-- what is at byte `at`, and then the tokens from behind it on, where so many bytes more are passed
abbrev pub lex_front : Front → ℕ → (ℕ → Lexed) → Lexed
lex_front at_front.Blank at more = more 0
lex_front (at_front.Token kind extra) at more =
    after (record { kind = kind; at = at } ∷ []) (more extra)
lex_front at_front.Bad at more = record { tokens = []; end = end_is.BadToken at }

-- the tokens of a text from byte `at` on, of which the first `passed` bytes are those of the token
-- before
unfoldable pub lex_from : ℕ → ℕ → List ℕ → Lexed
lex_from passed at [] = record { tokens = []; end = end_is.Ends at }
lex_from zero at (x ∷ xs) = lex_front (front (x ∷ xs)) at (λ extra. lex_from extra (at + 1) xs)
lex_from (suc passed) at (x ∷ xs) = lex_from passed (at + 1) xs

abbrev pub lex : List ℕ → Lexed
lex text = lex_from 0 0 text

-- ---- places

-- each token stands at `from` or behind it, behind the token before it, and before `stop`
abbrev pub Ascend : ℕ → List Token → ℕ → Type 0
Ascend from [] stop = from ≤ stop
Ascend from (t ∷ ts) stop = (from ≤ t.at) × Ascend (t.at + 1) ts stop

abbrev pub place_of : End → ℕ
place_of (end_is.Ends at) = at
place_of (end_is.BadToken at) = at

-- the end is that of the text, and no token begins at a byte of it
abbrev pub IsEndOf : ℕ → End → Type 0
IsEndOf len (end_is.Ends at) = at ≡ len
IsEndOf len (end_is.BadToken at) = at < len
