-- Texts, token by token, and a fault that each has.
use Rattle.std.specs.Prelude.{ℕ, zero, suc, negsuc, ◌+◌, List, [], ◌∷◌, Some, codes}
use Rattle.std.proofs.Common.{refl}
use Rattle.rctl_grammar.specs.declared.token.Kind.TheVariants as kind
use Rattle.rctl_grammar.specs.declared.token.Word.TheVariants as word
use Rattle.rctl_grammar.specs.declared.token.Token.{Token}
use Rattle.rctl_grammar.specs.declared.token.End.TheVariants as end
use Rattle.rctl_grammar.specs.declared.tree.Compare.TheVariants as compare
use Rattle.rctl_grammar.specs.declared.fault.FormulaCode.TheVariants as code
use Rattle.rctl_grammar.specs.Grammar.{tok, spelled}
use Rattle.rctl_grammar.specs.FirstFault.{syntax_at, number_at, too_deep_at, too_many_at}
use Rattle.rctl_laws.specs.Table.{HasFault}
use Rattle.rctl_laws.proofs.Stands.{first_stands}

abbrev truth_at : ℕ → Token
truth_at at = spelled word.True (codes "true") at

abbrev name_at : ℕ → Token
name_at at = spelled word.Plain (codes "P") at

abbrev bangs : ℕ → ℕ → List Token → List Token
bangs zero at rest = rest
bangs (suc n) at rest = tok kind.Bang at ∷ bangs n (at + 1) rest

-- `n` times " & true" behind a place
abbrev and_truths : ℕ → ℕ → List Token
and_truths zero at = []
and_truths (suc n) at = tok kind.Amp (at + 1) ∷ truth_at (at + 3) ∷ and_truths n (at + 7)

-- `foo & true`
a_word_alone : HasFault (name_at 0 ∷ tok kind.Amp 4 ∷ truth_at 6 ∷ []) (end.Ends 10) code.Syntax 4
a_word_alone = first_stands _ (end.Ends 10) (syntax_at 4) refl

-- `intransit(P,P) >= -1`
negative_count : HasFault (spelled word.InTransit (codes "intransit") 0 ∷ tok kind.OpenRound 9 ∷ name_at 10 ∷ tok kind.Comma 11 ∷ name_at 12 ∷ tok kind.CloseRound 13
    ∷ tok (kind.Compare compare.Ge) 15 ∷ tok (kind.Number (Some (negsuc 0))) 18 ∷ []) (end.Ends 20) code.Number 18
negative_count = first_stands _ (end.Ends 20) (number_at 18) refl

-- 17 times `!`, then `true`
seventeen_levels : HasFault (bangs 17 0 (truth_at 17 ∷ [])) (end.Ends 21) code.TooDeep 16
seventeen_levels = first_stands _ (end.Ends 21) (too_deep_at 16) refl

-- 64 times `true`, joined by ` & `
too_many_nodes : HasFault (truth_at 0 ∷ and_truths 63 4) (end.Ends 445) code.TooManyNodes 441
too_many_nodes = first_stands _ (end.Ends 445) (too_many_at 441) refl
