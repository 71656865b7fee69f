-- The laws of the grammar.
use Rattle.std.specs.Prelude.{◌≡◌, ℕ, ◌≤◌, true, List, Some, None}
use Rattle.pota_base.specs.Limits.{deepest, most_nodes}
use Rattle.rctl_grammar.specs.declared.token.Token.{Token}
use Rattle.rctl_grammar.specs.declared.token.End.{End}
use Rattle.rctl_grammar.specs.declared.token.End.TheVariants as end
use Rattle.rctl_grammar.specs.declared.fault.FormulaCode.{FormulaCode}
use Rattle.rctl_grammar.specs.declared.fault.FormulaFault.{FormulaFault}
use Rattle.rctl_grammar.specs.Grammar.{Disjunction, IsFormula, levels_disjunction}
use Rattle.rctl_grammar.specs.Grammar.{nodes_disjunction, disjunction_in_range}
use Rattle.rctl_grammar.specs.Machine.{read}
use Rattle.rctl_grammar.specs.FirstFault.{first_fault}
use Rattle.rctl_lexer.specs.Lexing.{Ascend, place_of}
use Rattle.rctl_laws.specs.Table.{HasFault, Precedes}

-- what is read of the tokens of a derivation is that derivation, so no other has the same tokens
abbrev pub OneReading : Type 0
OneReading = (tokens : List Token) (d : Disjunction) → IsFormula tokens d → read tokens ≡ Some d

-- a formula whose numbers are in range, of at most 16 levels and 64 nodes
pub record IsWithinLimits (d : Disjunction) : Type 0 where
  pub levels : levels_disjunction d ≤ deepest
  pub nodes : nodes_disjunction d ≤ most_nodes
  pub numbers : disjunction_in_range d ≡ true

-- tokens of such a formula up to the end of the text have no fault
abbrev pub WithinLimitsIsRead : Type 0
WithinLimitsIsRead =
    (tokens : List Token) (d : Disjunction) (len : ℕ) → IsFormula tokens d → IsWithinLimits d
    → first_fault tokens (end.Ends len) ≡ None

-- the tokens are those of a formula within the limits, and the text ends behind them
pub record IsFree (tokens : List Token) (ending : End) : Type 0 where
  pub d : Disjunction
  pub text : IsFormula tokens d
  pub limits : IsWithinLimits d
  pub len : ℕ
  pub ends : ending ≡ end.Ends len

-- and no other tokens are without a fault
abbrev pub NoFaultIsWithinLimits : Type 0
NoFaultIsWithinLimits =
    (tokens : List Token) (ending : End) → first_fault tokens ending ≡ None → IsFree tokens ending

-- the first fault of a text is one that it has
abbrev pub FirstFaultStands : Type 0
FirstFaultStands =
    (tokens : List Token) (ending : End) (fault : FormulaFault)
    → first_fault tokens ending ≡ Some fault → HasFault tokens ending fault.code fault.place

-- a text that has a fault has a first fault, which is that one or comes before it. Its tokens stand
-- one behind the other
abbrev pub FirstFaultPrecedes : Type 0
FirstFaultPrecedes =
    (tokens : List Token) (ending : End) (c : FormulaCode) (at : ℕ)
    → Ascend 0 tokens (place_of ending) → HasFault tokens ending c at
    → (fault : FormulaFault) × (first_fault tokens ending ≡ Some fault) × Precedes fault c at
