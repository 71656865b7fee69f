-- The places of the tokens of a text ascend, up to its end.
use Rattle.std.proofs.Common.{◌≡◌, ℕ, zero, suc, ◌+◌, ◌<◌, List, [], ◌∷◌, length, arith}
use Rattle.rctl_grammar.specs.declared.token.Token.{Token}
use Rattle.rctl_lexer.specs.declared.front.Front.{Front}
use Rattle.rctl_lexer.specs.declared.front.Front.TheVariants as at_front
use Rattle.rctl_lexer.specs.declared.lexer.Lexed.{Lexed}
use Rattle.rctl_lexer.specs.Front.{front}
use Rattle.rctl_lexer.specs.Lexing.{lex, lex_from, lex_front, place_of, Ascend, IsEndOf}

abbrev Rises : ℕ → Lexed → Type 0
Rises from lexed = Ascend from lexed.tokens (place_of lexed.end)

ascend-weaker : (from : ℕ) (ts : List Token) (stop : ℕ) → Ascend (from + 1) ts stop → Ascend from ts stop
ascend-weaker from [] stop h = omega arith
ascend-weaker from (t ∷ ts) stop h = (omega (arith, h.0), h.1)

rises-front : (f : Front) (at : ℕ) (more : ℕ → Lexed) → ((extra : ℕ) → Rises (at + 1) (more extra)) → Rises at (lex_front f at more)
rises-front at_front.Blank at more ih = ascend-weaker at (more 0).tokens (place_of (more 0).end) (ih 0)
rises-front (at_front.Token kind extra) at more ih = (omega arith, ih extra)
rises-front at_front.Bad at more ih = omega arith

rises-from : (passed at : ℕ) (xs : List ℕ) → Rises at (lex_from passed at xs)
unfolding lex_from
rises-from passed at [] = omega arith
rises-from zero at (x ∷ xs) = rises-front (front (x ∷ xs)) at _ (λ extra. rises-from extra (at + 1) xs)
rises-from (suc passed) at (x ∷ xs) = ascend-weaker at (lex_from passed (at + 1) xs).tokens (place_of (lex_from passed (at + 1) xs).end) (rises-from passed (at + 1) xs)

pub lex_ascends : (text : List ℕ) → Ascend 0 (lex text).tokens (place_of (lex text).end)
lex_ascends text = rises-from 0 0 text

end-front : (f : Front) (at len : ℕ) (more : ℕ → Lexed) → at < len → ((extra : ℕ) → IsEndOf len (more extra).end) → IsEndOf len (lex_front f at more).end
end-front at_front.Blank at len more lt ih = ih 0
end-front (at_front.Token kind extra) at len more lt ih = ih extra
end-front at_front.Bad at len more lt ih = lt

end-from : (passed at len : ℕ) (xs : List ℕ) → at + length xs ≡ len → IsEndOf len (lex_from passed at xs).end
unfolding lex_from
end-from passed at len [] e = omega arith
end-from zero at len (x ∷ xs) e = end-front (front (x ∷ xs)) at len _ (omega arith) (λ extra. end-from extra (at + 1) len xs (omega arith))
end-from (suc passed) at len (x ∷ xs) e = end-from passed (at + 1) len xs (omega arith)

pub lex_ends : (text : List ℕ) → IsEndOf (length text) (lex text).end
lex_ends text = end-from 0 0 (length text) text (omega arith)
