-- Texts whose first fault is known, token by token.
use Rattle.std.specs.Prelude.{ℕ, ℤ, pos, negsuc, zero, suc, ◌+◌, List, [], ◌∷◌, ◌++◌, Option, None, Some, codes}
use Rattle.std.proofs.Common.{◌≡◌, refl}
use Rattle.rctl_grammar.specs.declared.token.Kind.TheVariants as kind
use Rattle.rctl_grammar.specs.declared.token.Word.TheVariants as word
use Rattle.rctl_grammar.specs.declared.token.Token.{Token}
use Rattle.rctl_grammar.specs.declared.token.End.TheVariants as end
use Rattle.rctl_grammar.specs.declared.tree.Compare.TheVariants as compare
use Rattle.rctl_grammar.specs.Grammar.{tok, spelled}
use Rattle.rctl_grammar.specs.FirstFault.{first_fault, syntax_at, token_at, number_at, too_deep_at, too_many_at}

abbrev plain : ℕ → Token
plain at = spelled word.Plain (codes "P") at

-- "P.x = 2" from a place on
abbrev comparison_from : ℕ → Option ℤ → List Token → List Token
comparison_from at value rest = plain at ∷ tok kind.Dot (at + 1) ∷ plain (at + 2) ∷ tok (kind.Compare compare.Eq) (at + 4) ∷ tok (kind.Number value) (at + 6) ∷ rest

abbrev truth_at : ℕ → Token
truth_at at = spelled word.True (codes "true") at

abbrev channel_from : ℕ → List Token → List Token
channel_from at rest = spelled word.InTransit (codes "intransit") at ∷ tok kind.OpenRound (at + 9) ∷ plain (at + 10) ∷ tok kind.Comma (at + 11) ∷ plain (at + 12) ∷
    tok kind.CloseRound (at + 13) ∷ rest

abbrev bangs : ℕ → ℕ → List Token → List Token
bangs zero at rest = rest
bangs (suc n) at rest = tok kind.Bang at ∷ bangs n (at + 1) rest

-- `n` times " & true" behind a place
abbrev and_truths : ℕ → ℕ → List Token
and_truths zero at = []
and_truths (suc n) at = tok kind.Amp (at + 1) ∷ truth_at (at + 3) ∷ and_truths n (at + 7)

abbrev ef_at : ℕ → Token
ef_at at = spelled word.Ef (codes "EF") at

abbrev ex_at : ℕ → Token
ex_at at = spelled word.Ex (codes "EX") at

-- "P.x - P.x <=" from a place on
abbrev difference_from : ℕ → List Token → List Token
difference_from at rest = plain at ∷ tok kind.Dot (at + 1) ∷ plain (at + 2) ∷ tok kind.Minus (at + 4) ∷ plain (at + 6) ∷ tok kind.Dot (at + 7) ∷ plain (at + 8) ∷
    tok (kind.Compare compare.Le) (at + 10) ∷ rest

empty_text : first_fault [] (end.Ends 0) ≡ Some (syntax_at 0)
empty_text = refl

-- `EF (P.x = 2`
group_left_open : first_fault (ef_at 0 ∷ tok kind.OpenRound 3 ∷ comparison_from 4 (Some (pos 2)) []) (end.Ends 11) ≡ Some (syntax_at 11)
group_left_open = refl

-- `EF (P.x = 2)`
group_closed : first_fault (ef_at 0 ∷ tok kind.OpenRound 3 ∷ comparison_from 4 (Some (pos 2)) (tok kind.CloseRound 11 ∷ [])) (end.Ends 12) ≡ None
group_closed = refl

-- `foo & true`
a_word_alone : first_fault (plain 0 ∷ tok kind.Amp 4 ∷ truth_at 6 ∷ []) (end.Ends 10) ≡ Some (syntax_at 4)
a_word_alone = refl

-- `EF P.x = 02`
leading_zero : first_fault (ef_at 0 ∷ plain 3 ∷ tok kind.Dot 4 ∷ plain 5 ∷ tok (kind.Compare compare.Eq) 7 ∷ []) (end.BadToken 9) ≡ Some (token_at 9)
leading_zero = refl

-- `EF P.x = 9223372036854775808`
number_too_large : first_fault (ef_at 0 ∷ comparison_from 3 None []) (end.Ends 28) ≡ Some (number_at 9)
number_too_large = refl

-- `intransit(P,Q) >= -1`
negative_count : first_fault (channel_from 0 (tok (kind.Compare compare.Ge) 15 ∷ tok (kind.Number (Some (negsuc 0))) 18 ∷ [])) (end.Ends 20) ≡ Some (number_at 18)
negative_count = refl

-- `intransit(P,Q) >= 0`
count_of_zero : first_fault (channel_from 0 (tok (kind.Compare compare.Ge) 15 ∷ tok (kind.Number (Some (pos 0))) 18 ∷ [])) (end.Ends 19) ≡ None
count_of_zero = refl

-- a number where none may stand: the syntax fault comes first
number_out_of_place : first_fault (tok (kind.Number None) 0 ∷ []) (end.Ends 19) ≡ Some (syntax_at 0)
number_out_of_place = refl

seventeen_negations : first_fault (bangs 17 0 (truth_at 17 ∷ [])) (end.Ends 21) ≡ Some (too_deep_at 16)
seventeen_negations = refl

sixteen_negations : first_fault (bangs 16 0 (truth_at 16 ∷ [])) (end.Ends 20) ≡ None
sixteen_negations = refl

-- an operator's word before the end opens a level; a process of that name opens none
word_too_deep : first_fault (bangs 16 0 (ef_at 16 ∷ [])) (end.Ends 18) ≡ Some (too_deep_at 16)
word_too_deep = refl

word_before_a_bad_token : first_fault (bangs 16 0 (ef_at 16 ∷ [])) (end.BadToken 18) ≡ Some (too_deep_at 16)
word_before_a_bad_token = refl

name_of_an_operator : first_fault (bangs 16 0 (ef_at 16 ∷ tok kind.At 18 ∷ ef_at 19 ∷ [])) (end.Ends 21) ≡ None
name_of_an_operator = refl

-- 64 times `true`, joined by ` & `
sixty_four_members : first_fault (truth_at 0 ∷ and_truths 63 4) (end.Ends 445) ≡ Some (too_many_at 441)
sixty_four_members = refl

sixty_three_members : first_fault (truth_at 0 ∷ and_truths 62 4) (end.Ends 438) ≡ None
sixty_three_members = refl

-- the 65th node at a word without a role comes before the syntax fault behind it
word_of_no_role : first_fault (truth_at 0 ∷ and_truths 62 4 ++ tok kind.Amp 439 ∷ plain 441 ∷ []) (end.Ends 442) ≡ Some (too_many_at 441)
word_of_no_role = refl

-- `E[P.x = 1 U P.x = 1]`
an_until : first_fault (spelled word.E (codes "E") 0 ∷ tok kind.OpenSquare 1 ∷ comparison_from 2 (Some (pos 1)) (spelled word.U (codes "U") 10 ∷
    comparison_from 12 (Some (pos 1)) (tok kind.CloseSquare 19 ∷ []))) (end.Ends 20) ≡ None
an_until = refl

-- `E[true U.x`: behind the left side `U` is the until's own
dot_behind_u : first_fault (spelled word.E (codes "E") 0 ∷ tok kind.OpenSquare 1 ∷ truth_at 2 ∷ spelled word.U (codes "U") 7 ∷ tok kind.Dot 8 ∷ plain 9 ∷ []) (end.Ends 10) ≡ Some (syntax_at 8)
dot_behind_u = refl

-- the `[` of an until opens a level, and its word none
until_too_deep : first_fault (bangs 16 0 (spelled word.A (codes "A") 16 ∷ tok kind.OpenSquare 17 ∷ [])) (end.Ends 18) ≡ Some (too_deep_at 17)
until_too_deep = refl

until_without_square : first_fault (bangs 16 0 (spelled word.A (codes "A") 16 ∷ truth_at 18 ∷ [])) (end.Ends 22) ≡ Some (syntax_at 18)
until_without_square = refl

-- `EF.x = 2`
process_named_ef : first_fault (ef_at 0 ∷ tok kind.Dot 2 ∷ plain 3 ∷ tok (kind.Compare compare.Eq) 5 ∷ tok (kind.Number (Some (pos 2))) 7 ∷ []) (end.Ends 8) ≡ None
process_named_ef = refl

-- `EF P.x`: an operand, which is no whole leaf
leaf_left_open : first_fault (ef_at 0 ∷ plain 3 ∷ tok kind.Dot 4 ∷ plain 5 ∷ []) (end.Ends 6) ≡ Some (syntax_at 6)
leaf_left_open = refl

-- `EX P.x = 1`: the process is named, and no unary begins with a dot
next_without_process : first_fault (ex_at 0 ∷ comparison_from 3 (Some (pos 1)) []) (end.Ends 10) ≡ Some (syntax_at 4)
next_without_process = refl

-- `EX true`: the word is the process, whichever word it is
next_of_true : first_fault (ex_at 0 ∷ truth_at 3 ∷ []) (end.Ends 7) ≡ Some (syntax_at 7)
next_of_true = refl

-- `EX EX true`
next_of_next : first_fault (ex_at 0 ∷ ex_at 3 ∷ truth_at 6 ∷ []) (end.Ends 10) ≡ None
next_of_next = refl

-- `EX P P.x = 1`
next_of_process : first_fault (ex_at 0 ∷ plain 3 ∷ comparison_from 5 (Some (pos 1)) []) (end.Ends 12) ≡ None
next_of_process = refl

-- its word opens a level, also where no process follows
next_too_deep : first_fault (bangs 16 0 (ex_at 16 ∷ tok kind.Bang 19 ∷ [])) (end.Ends 20) ≡ Some (too_deep_at 16)
next_too_deep = refl

-- `P.x - 1 <= 2`, where the `-` is a token of its own
number_subtracted : first_fault (plain 0 ∷ tok kind.Dot 1 ∷ plain 2 ∷ tok kind.Minus 4 ∷ tok (kind.Number (Some (pos 1))) 6 ∷ []) (end.Ends 12) ≡ Some (syntax_at 6)
number_subtracted = refl

-- `P.x - P.x <= 2`
difference_within : first_fault (difference_from 0 (tok (kind.Number (Some (pos 2))) 13 ∷ [])) (end.Ends 14) ≡ None
difference_within = refl

-- `P.x - P.x <= P.x`: a difference is compared with a number
difference_of_three : first_fault (difference_from 0 (plain 13 ∷ [])) (end.Ends 16) ≡ Some (syntax_at 13)
difference_of_three = refl

difference_too_large : first_fault (difference_from 0 (tok (kind.Number None) 13 ∷ [])) (end.Ends 33) ≡ Some (number_at 13)
difference_too_large = refl

-- `empty(P,P) | true`
empty_channel : first_fault (spelled word.Empty (codes "empty") 0 ∷ tok kind.OpenRound 5 ∷ plain 6 ∷ tok kind.Comma 7 ∷ plain 8 ∷ tok kind.CloseRound 9 ∷
    tok kind.Bar 11 ∷ truth_at 13 ∷ []) (end.Ends 17) ≡ None
empty_channel = refl
