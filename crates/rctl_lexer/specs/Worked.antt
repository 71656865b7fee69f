-- Worked examples: texts and their tokens.
use Rattle.std.specs.Prelude.{◌≡◌, ℕ, pos, negsuc, List, [], ◌∷◌, replicate, Some, None, codes}
use Rattle.std.specs.Prelude.{refl}
use Rattle.pota_base.specs.Number.{signed_at, digits_from}
use Rattle.rctl_grammar.specs.declared.token.Kind.{Kind}
use Rattle.rctl_grammar.specs.declared.token.Kind.TheVariants as kind
use Rattle.rctl_grammar.specs.declared.token.Word.TheVariants as word
use Rattle.rctl_grammar.specs.declared.token.Token.{Token}
use Rattle.rctl_grammar.specs.declared.token.End.{End}
use Rattle.rctl_grammar.specs.declared.token.End.TheVariants as end_is
use Rattle.rctl_grammar.specs.declared.tree.Compare.TheVariants as compare
use Rattle.rctl_lexer.specs.declared.lexer.Lexed.{Lexed}
use Rattle.rctl_lexer.specs.Words.{word_of}
use Rattle.rctl_lexer.specs.Front.{front, word_front, number_front, sign_front, sign_of}
use Rattle.rctl_lexer.specs.Front.{with_equals}
use Rattle.rctl_lexer.specs.Lexing.{lex, lex_from}

-- all of it
abbrev whole : List Token → End → Lexed
whole tokens end = record { tokens = tokens; end = end }

abbrev tok : Kind → ℕ → Token
tok kind at = record { kind = kind; at = at }

-- no token stands at the front
abbrev nothing : Lexed
nothing = record { tokens = []; end = end_is.BadToken 0 }

nothing_at_all : lex [] ≡ whole [] (end_is.Ends 0)
unfolding lex_from
nothing_at_all = refl

leading_zero : lex (codes "02") ≡ nothing
unfolding lex_from front
leading_zero = refl

minus_zero : lex (codes "-0") ≡ nothing
unfolding lex_from front
minus_zero = refl

minus_and_leading_zero : lex (codes "-01") ≡ nothing
unfolding lex_from front
minus_and_leading_zero = refl

lone_minus : lex (codes "-") ≡ whole (tok kind.Minus 0 ∷ []) (end_is.Ends 1)
unfolding lex_from front sign_front sign_of with_equals
lone_minus = refl

parted_minus : lex (codes "- 1")
    ≡ whole (tok kind.Minus 0 ∷ tok (kind.Number (Some (pos 1))) 2 ∷ []) (end_is.Ends 3)
unfolding lex_from front sign_front sign_of with_equals number_front signed_at digits_from
parted_minus = refl

-- the longest token is a number
minus_before_a_digit : lex (codes "x-1") ≡ whole
    (tok (kind.Word word.Plain (codes "x")) 0 ∷ tok (kind.Number (Some (negsuc 0))) 1 ∷ [])
    (end_is.Ends 3)
unfolding lex_from front word_front word_of number_front signed_at digits_from
minus_before_a_digit = refl

zero_alone : lex (codes "0") ≡ whole (tok (kind.Number (Some (pos 0))) 0 ∷ []) (end_is.Ends 1)
unfolding lex_from front number_front signed_at digits_from
zero_alone = refl

least_number : lex (codes "-9223372036854775808")
    ≡ whole (tok (kind.Number (Some (negsuc 9223372036854775807))) 0 ∷ []) (end_is.Ends 20)
unfolding lex_from front number_front signed_at digits_from
least_number = refl

greatest_number : lex (codes "9223372036854775807")
    ≡ whole (tok (kind.Number (Some (pos 9223372036854775807))) 0 ∷ []) (end_is.Ends 19)
unfolding lex_from front number_front signed_at digits_from
greatest_number = refl

number_out_of_range : lex (codes "9223372036854775808")
    ≡ whole (tok (kind.Number None) 0 ∷ []) (end_is.Ends 19)
unfolding lex_from front number_front signed_at digits_from
number_out_of_range = refl

-- 97 is an `a`
longest_word : lex (replicate 64 97)
    ≡ whole (tok (kind.Word word.Plain (replicate 64 97)) 0 ∷ []) (end_is.Ends 64)
unfolding lex_from front word_front word_of
longest_word = refl

word_too_long : lex (replicate 65 97) ≡ nothing
unfolding lex_from front word_front word_of
word_too_long = refl

comparisons : lex (codes "<=<!=!")
    ≡ whole (tok (kind.Compare compare.Le) 0 ∷ tok (kind.Compare compare.Lt) 2
    ∷ tok (kind.Compare compare.Ne) 3 ∷ tok kind.Bang 5 ∷ []) (end_is.Ends 6)
unfolding lex_from front sign_front sign_of with_equals
comparisons = refl

-- 9 is a tab, 38 an `&`
tabs : lex (9 ∷ 38 ∷ 9 ∷ []) ≡ whole (tok kind.Amp 1 ∷ []) (end_is.Ends 3)
unfolding lex_from front sign_front sign_of with_equals
tabs = refl

no_letter : lex (195 ∷ []) ≡ nothing
unfolding lex_from front sign_front sign_of with_equals
no_letter = refl

-- what a process named EF is, the tokens behind it say
process_ef : lex (codes "EF.x") ≡ whole
    (tok (kind.Word word.Ef (codes "EF")) 0 ∷ tok kind.Dot 2
    ∷ tok (kind.Word word.Plain (codes "x")) 3 ∷ []) (end_is.Ends 4)
unfolding lex_from front word_front word_of sign_front sign_of with_equals
process_ef = refl

stops_at_a_bad_token : lex (codes "x = 02 & y")
    ≡ whole (tok (kind.Word word.Plain (codes "x")) 0 ∷ tok (kind.Compare compare.Eq) 2 ∷ [])
    (end_is.BadToken 4)
unfolding lex_from front word_front word_of sign_front sign_of with_equals
stops_at_a_bad_token = refl
