-- What a verifier is asked: one formula. Its words name no watches.
use Rattle.std.specs.Prelude.{◌≡◌, ℕ, true, false, List, [], ◌∷◌, None}
use Rattle.rctl_grammar.specs.declared.fault.FormulaFault.{FormulaFault}
use Rattle.rctl_grammar.specs.declared.tree.Tree.{Tree}
use Rattle.rctl_class.specs.Faults.{first_fault}
use Rattle.rctl_class.specs.Nodes.{node_of}
use Rattle.stated_formula.specs.declared.formula.Stated.{Stated}
use Rattle.stated_formula.specs.Stating.{IsShortText, IsStated, IsFormulaFault}
use Rattle.fault_line.specs.declared.fault.Fault.{Fault}
use Rattle.fault_line.specs.declared.fault.Fault.TheVariants as fault

-- the words are one formula of the class, which was read as this tree
pub record AsksAbout (words : List (List ℕ)) (t : Tree) : Type 0 where
  pub text : List ℕ
  pub one : words ≡ text ∷ []
  pub is_read : IsShortText text t
  pub free : first_fault false true (node_of t) ≡ None

-- there is no word, or more than one
abbrev pub AskNothing : List (List ℕ) → Type 0
AskNothing words = (text : List ℕ) → words ≡ text ∷ [] → ⊥

-- the words are one formula with this fault
pub record HasFormulaFault (words : List (List ℕ)) (f : FormulaFault) : Type 0 where
  pub text : List ℕ
  pub one : words ≡ text ∷ []
  pub fault : IsFormulaFault text f

-- the words are one formula, which was read, classified and printed so
abbrev pub IsFormulaOf : List (List ℕ) → Stated → Type 0
IsFormulaOf words stated =
    (text : List ℕ) × (words ≡ text ∷ []) × IsStated text stated

-- why the words are no formula that is verified; of want of memory nothing is said
abbrev pub IsMisasked : List (List ℕ) → Fault → Type 0
IsMisasked words fault.Usage = AskNothing words
IsMisasked words (fault.Formula f) = HasFormulaFault words f
IsMisasked words (fault.Log f) = ⊥
IsMisasked words (fault.Import f) = ⊥
IsMisasked words (fault.Merge f) = ⊥
IsMisasked words fault.Read = ⊥
IsMisasked words fault.Write = ⊥
IsMisasked words fault.Memory = Unit {0}
