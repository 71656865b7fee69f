-- What the reading of a text gives.
use Rattle.std.specs.Prelude.{◌≡◌, ℕ, nat_lt, length, List, Option, Some, if◌then◌else◌}
use Rattle.pota_base.specs.Limits.{longest_formula}
use Rattle.rctl_grammar.specs.declared.token.Token.{Token}
use Rattle.rctl_grammar.specs.declared.token.End.{End}
use Rattle.rctl_grammar.specs.declared.token.End.TheVariants as end
use Rattle.rctl_grammar.specs.declared.fault.FormulaCode.TheVariants as code
use Rattle.rctl_grammar.specs.declared.fault.FormulaFault.{FormulaFault}
use Rattle.rctl_grammar.specs.declared.tree.Tree.{Tree}
use Rattle.rctl_grammar.specs.Grammar.{Disjunction, IsFormula, tree_disjunction}
use Rattle.rctl_grammar.specs.FirstFault.{first_fault}
use Rattle.rctl_laws.specs.PassedOn.{lex}
use Rattle.rctl_laws.specs.Laws.{IsWithinLimits}

-- the tokens, up to the end of the text, are those of a formula within the limits, and this is its
-- tree, places included
pub record IsTreeOf (tokens : List Token) (ending : End) (t : Tree) : Type 0 where
  pub d : Disjunction
  pub text : IsFormula tokens d
  pub limits : IsWithinLimits d
  pub len : ℕ
  pub ends : ending ≡ end.Ends len
  pub tree : tree_disjunction d ≡ t

-- the text is a formula within the limits, and this is its tree
abbrev pub IsReadAs : List ℕ → Tree → Type 0
IsReadAs text t = IsTreeOf (lex text).tokens (lex text).end t

-- the first fault of a text, however long it is
abbrev pub long_fault : List ℕ → Option FormulaFault
long_fault text = first_fault (lex text).tokens (lex text).end

-- the first fault of a text: too long comes before all
abbrev pub fault_of_text : List ℕ → Option FormulaFault
fault_of_text text =
    if nat_lt longest_formula (length text) then Some
    (record { code = code.TooLong; place = longest_formula })
    else long_fault text
