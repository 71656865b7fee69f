-- What the parser reads of a formula, whatever stands around it.
use Rattle.std.specs.Prelude.{◌≡◌, ◌⊎◌, ℕ, ◌+◌, ◌-◌, ◌≤◌, ◌<◌, Bool, true, length, List, [], ◌∷◌}
use Rattle.std.specs.Prelude.{None, Some}
use Rattle.run_model.specs.Run.{Name}
use Rattle.pota_base.specs.Limits.{deepest, most_nodes}
use Rattle.rctl_grammar.specs.declared.token.Kind.TheVariants as kind
use Rattle.rctl_grammar.specs.declared.token.Word.{Word}
use Rattle.rctl_grammar.specs.declared.token.Word.TheVariants as word
use Rattle.rctl_grammar.specs.declared.token.Token.{Token}
use Rattle.rctl_grammar.specs.declared.token.End.{End}
use Rattle.rctl_grammar.specs.declared.fault.FormulaFault.{FormulaFault}
use Rattle.rctl_grammar.specs.declared.tree.Atom.{Atom}
use Rattle.rctl_grammar.specs.declared.tree.Operator.{Operator}
use Rattle.rctl_grammar.specs.declared.tree.Operator.TheVariants as operator
use Rattle.rctl_grammar.specs.declared.tree.Place.{Place}
use Rattle.rctl_grammar.specs.declared.tree.Tree.{Tree}
use Rattle.rctl_grammar.specs.Grammar.{Spelled, named, placed_name, Leaf, leaf, atom_of}
use Rattle.rctl_grammar.specs.Grammar.{first_token, leaf_in_range, text_leaf, Disjunction}
use Rattle.rctl_grammar.specs.Grammar.{Conjunction, Unary, tok, spelled, path_word, truth_word}
use Rattle.rctl_grammar.specs.Grammar.{text_disjunction, text_conjunction, text_unary, first_amp}
use Rattle.rctl_grammar.specs.Grammar.{first_bar, tree_disjunction, tree_conjunction, tree_unary}
use Rattle.rctl_grammar.specs.Grammar.{disjuncts, conjuncts, levels_disjunction, levels_conjunction}
use Rattle.rctl_grammar.specs.Grammar.{levels_unary, nodes_disjunction, nodes_conjunction}
use Rattle.rctl_grammar.specs.Grammar.{nodes_unary, amp_nodes, bar_nodes, disjunction_in_range}
use Rattle.rctl_grammar.specs.Grammar.{conjunction_in_range, unary_in_range}
use Rattle.rctl_grammar.specs.Machine.{Before, nothing, bar, Outer, in_left, Open, first_of}
use Rattle.rctl_grammar.specs.Machine.{next_of, operand, a_word, after, plug, joined, settled}
use Rattle.rctl_grammar.specs.Machine.{in_stepping, NameSign, no_sign, sign}
use Rattle.rctl_grammar.specs.FirstFault.{fault_of, depth, depth_outer, nodes_open, nodes_outer}
use Rattle.rctl_grammar.specs.FirstFault.{nodes_before}
use Rattle.rctl_parse.specs.declared.around.Around.{Around}
use Rattle.rctl_parse.specs.declared.role.LeafRole.{LeafRole}
use Rattle.rctl_parse.specs.declared.role.LeafRole.TheVariants as leaf_role
use Rattle.rctl_parse.specs.declared.role.Role.{Role}
use Rattle.rctl_parse.specs.declared.role.Role.TheVariants as role
use Rattle.rctl_parse.specs.declared.role.Opening.{Opening}
use Rattle.rctl_parse.specs.declared.role.Opening.TheVariants as opening
use Rattle.rctl_parse.specs.inside.Limits.{Entered}
use Rattle.rctl_parse.specs.declared.symbol.Symbol.{Symbol}
use Rattle.rctl_parse.specs.inside.Reading.{found, here, symbol_in, amp_in, bar_in}

-- the place of a name
abbrev pub place_by : (name : Name) → (at : ℕ) → Place
place_by name at = record { name = name; at = at }

-- ---- what stands first

-- what the first token makes of a word before it
abbrev pub sign_of : List Token → NameSign
sign_of [] = no_sign
sign_of (t ∷ ts) = sign t.kind

-- no unary begins here
abbrev pub NoUnary : List Token → Type 0
NoUnary ts = (o : Open) (ending : End) → fault_of (operand o) ts ending ≡ Some (here ts ending)

abbrev pub IsOpening : Opening → List Token → Type 0
IsOpening (opening.Negation at rest) ts = ts ≡ tok kind.Bang at ∷ rest.now
IsOpening (opening.Group at rest) ts = ts ≡ tok kind.OpenRound at ∷ rest.now
IsOpening (opening.Word w name at rest) ts = ts ≡ spelled w name.now at ∷ rest.now
IsOpening opening.Nothing ts = NoUnary ts

-- a word that no formula has in the place of a unary
abbrev pub NoRole : Word → Type 0
NoRole w =
    (o : Open) (name : Name) (at : ℕ) → settled o (record { word = w; name = name; at = at }) ≡ None

-- the leaf that a word begins before these tokens
abbrev pub IsLeafRole : LeafRole → Word → List Token → Type 0
IsLeafRole (leaf_role.Compared rest) w ts = (dot : ℕ) × (ts ≡ tok kind.Dot dot ∷ rest.now)
IsLeafRole (leaf_role.Watched rest) w ts = (at : ℕ) × (ts ≡ tok kind.At at ∷ rest.now)
IsLeafRole (leaf_role.Constant value) w ts = (w ≡ truth_word value) × (sign_of ts ≡ no_sign)
IsLeafRole leaf_role.Transit w ts = (w ≡ word.InTransit) × (sign_of ts ≡ no_sign)
IsLeafRole leaf_role.Emptiness w ts = (w ≡ word.Empty) × (sign_of ts ≡ no_sign)
IsLeafRole leaf_role.Nothing w ts = NoRole w × (sign_of ts ≡ no_sign)

-- the operator that the word is. No word is the operator of a process's number
abbrev pub IsWordOf : Operator → Word → Type 0
IsWordOf operator.Ef w = w ≡ word.Ef
IsWordOf operator.Ag w = w ≡ word.Ag
IsWordOf operator.Eg w = w ≡ word.Eg
IsWordOf (operator.Ex process) w = ⊥
IsWordOf operator.Af w = w ≡ word.Af
IsWordOf operator.Ax w = w ≡ word.Ax

-- the role of a word that isn't a name
abbrev pub IsRoleAlone : Role → Word → Type 0
IsRoleAlone (role.Operator operator) w = IsWordOf operator w
IsRoleAlone role.Stepping w = w ≡ word.Ex
IsRoleAlone (role.Path all) w = w ≡ path_word all
IsRoleAlone (role.Leaf (leaf_role.Compared rest)) w = ⊥
IsRoleAlone (role.Leaf (leaf_role.Watched rest)) w = ⊥
IsRoleAlone (role.Leaf (leaf_role.Constant value)) w = w ≡ truth_word value
IsRoleAlone (role.Leaf leaf_role.Transit) w = w ≡ word.InTransit
IsRoleAlone (role.Leaf leaf_role.Emptiness) w = w ≡ word.Empty
IsRoleAlone (role.Leaf leaf_role.Nothing) w = NoRole w

abbrev pub IsRole : Role → Word → List Token → Type 0
IsRole (role.Operator operator) w ts = IsWordOf operator w × (sign_of ts ≡ no_sign)
IsRole role.Stepping w ts = (w ≡ word.Ex) × (sign_of ts ≡ no_sign)
IsRole (role.Path all) w ts = (w ≡ path_word all) × (sign_of ts ≡ no_sign)
IsRole (role.Leaf l) w ts = IsLeafRole l w ts

-- ---- unaries

-- a leaf is read from behind its word to the rest, whatever stands around it that has room for a
-- node
pub record WordRead (w : Spelled) (ts rest : List Token) (ending : End) (a : Atom) : Type 0 where
  pub l : Leaf
  pub atom : atom_of l ≡ a
  pub place : first_token l ≡ w.at
  pub in_range : leaf_in_range l ≡ true
  pub text : named w ∷ ts ≡ text_leaf l rest
  pub goes : (o : Open) → nodes_open o < most_nodes
      → fault_of (a_word o w) ts ending ≡ fault_of (plug o (leaf l)) rest ending
  pub shorter : length rest < length (named w ∷ ts)

abbrev pub WordFault : Spelled → List Token → End → FormulaFault → Type 0
WordFault w ts ending f =
    (o : Open) → nodes_open o < most_nodes → fault_of (a_word o w) ts ending ≡ Some f

abbrev pub UnaryFault : List Token → Around → FormulaFault → Type 0
UnaryFault ts around f =
    (o : Open) → depth o ≡ around.level → nodes_open o ≡ around.nodes
    → fault_of (operand o) ts around.end ≡ Some f

pub record UnaryRead (ts rest : List Token) (around : Around) (nodes : ℕ) (t : Tree) : Type 0 where
  pub u : Unary
  pub tree : tree_unary u ≡ t
  pub text : ts ≡ text_unary u rest
  pub goes : (o : Open) → depth o ≡ around.level → nodes_open o ≡ around.nodes
      → fault_of (operand o) ts around.end ≡ fault_of (plug o u) rest around.end
  pub counts : nodes ≡ around.nodes + nodes_unary u
  pub fits : nodes ≤ most_nodes
  pub levels : levels_unary u ≤ deepest - around.level
  pub in_range : unary_in_range u ≡ true
  pub shorter : length rest < length ts

-- behind the word of an until, and behind its `[`
pub record PathRead (all : Bool) (place : Place) (ts rest : List Token) (around inside : Around)
    : Type 0 where
  pub opened : ℕ
  pub enters : Entered around inside
  pub text : ts ≡ tok kind.OpenSquare opened ∷ rest
  pub goes : (o : Open) → depth o ≡ around.level → nodes_open o ≡ around.nodes
      → fault_of (operand o) (spelled (path_word all) place.name place.at ∷ ts) around.end
      ≡ fault_of (operand (first_of (in_left o
      (record { all = all; name = place.name; at = place.at; opened = opened })) nothing)) rest
      around.end

-- behind "EX", and behind its process
pub record SteppingRead (place : Place) (ts rest : List Token) (around inside : Around)
    (process : Place) : Type 0 where
  pub p : Spelled
  pub process_is : placed_name p ≡ process
  pub enters : Entered around inside
  pub text : ts ≡ named p ∷ rest
  pub goes : (o : Open) → depth o ≡ around.level → nodes_open o ≡ around.nodes
      → fault_of (operand o) (spelled word.Ex place.name place.at ∷ ts) around.end
      ≡ fault_of (operand (in_stepping o place.name place.at p)) rest around.end

-- ---- conjunctions

abbrev pub ConjunctionFault : List Token → Around → FormulaFault → Type 0
ConjunctionFault ts around f =
    (outer : Outer) (before : Before) → depth_outer outer ≡ around.level
    → nodes_outer outer + nodes_before before ≡ around.nodes
    → fault_of (operand (first_of outer before)) ts around.end ≡ Some f

pub record ConjunctionRead (ts rest : List Token) (around : Around) (nodes : ℕ) (t : Tree) : Type 0
  where
    pub c : Conjunction
    pub tree : tree_conjunction c ≡ t
    pub text : ts ≡ text_conjunction c rest
    pub goes : (outer : Outer) (before : Before) → depth_outer outer ≡ around.level
        → nodes_outer outer + nodes_before before ≡ around.nodes
        → fault_of (operand (first_of outer before)) ts around.end
        ≡ fault_of (after outer before c) rest around.end
    pub counts : nodes ≡ around.nodes + nodes_conjunction c
    pub fits : nodes ≤ most_nodes
    pub levels : levels_conjunction c ≤ deepest - around.level
    pub in_range : conjunction_in_range c ≡ true
    pub ends : found amp_in rest ≡ None
    pub shorter : length rest < length ts

-- the members so far, behind an `&`
pub record ConjunctionSoFar (ts more : List Token) (around : Around) (nodes : ℕ)
    (members : List Tree) (at : ℕ) : Type 0 where
  pub c : Conjunction
  pub amp : ℕ
  pub trees : conjuncts c ≡ members
  pub first : first_amp c amp ≡ at
  pub text : ts ≡ text_conjunction c (tok kind.Amp amp ∷ more)
  pub goes : (outer : Outer) (before : Before) → depth_outer outer ≡ around.level
      → nodes_outer outer + nodes_before before ≡ around.nodes
      → fault_of (operand (first_of outer before)) ts around.end
      ≡ fault_of (operand (next_of outer before c amp)) more around.end
  pub counts : nodes ≡ around.nodes + nodes_conjunction c + amp_nodes c
  pub levels : levels_conjunction c ≤ deepest - around.level
  pub in_range : conjunction_in_range c ≡ true
  pub shorter : length more < length ts

-- ---- formulas

abbrev pub FormulaFails : List Token → Around → FormulaFault → Type 0
FormulaFails ts around f =
    (outer : Outer) → depth_outer outer ≡ around.level → nodes_outer outer ≡ around.nodes
    → fault_of (operand (first_of outer nothing)) ts around.end ≡ Some f

pub record FormulaRead (ts rest : List Token) (around : Around) (nodes : ℕ) (t : Tree) : Type 0
  where
    pub before : Before
    pub c : Conjunction
    pub tree : tree_disjunction (joined before c) ≡ t
    pub text : ts ≡ text_disjunction (joined before c) rest
    pub goes : (outer : Outer) → depth_outer outer ≡ around.level → nodes_outer outer ≡ around.nodes
        → fault_of (operand (first_of outer nothing)) ts around.end
        ≡ fault_of (after outer before c) rest around.end
    pub counts : nodes ≡ around.nodes + nodes_disjunction (joined before c)
    pub fits : nodes ≤ most_nodes
    pub levels : levels_disjunction (joined before c) ≤ deepest - around.level
    pub in_range : disjunction_in_range (joined before c) ≡ true
    pub no_amp : found amp_in rest ≡ None
    pub no_bar : found bar_in rest ≡ None
    pub shorter : length rest < length ts

-- the members so far, behind a `|`
pub record FormulaSoFar (ts more : List Token) (around : Around) (nodes : ℕ) (members : List Tree)
    (at : ℕ) : Type 0 where
  pub d : Disjunction
  pub bar_at : ℕ
  pub trees : disjuncts d ≡ members
  pub first : first_bar d bar_at ≡ at
  pub text : ts ≡ text_disjunction d (tok kind.Bar bar_at ∷ more)
  pub goes : (outer : Outer) → depth_outer outer ≡ around.level → nodes_outer outer ≡ around.nodes
      → fault_of (operand (first_of outer nothing)) ts around.end
      ≡ fault_of (operand (first_of outer (bar d bar_at))) more around.end
  pub counts : nodes ≡ around.nodes + nodes_disjunction d + bar_nodes d
  pub levels : levels_disjunction d ≤ deepest - around.level
  pub in_range : disjunction_in_range d ≡ true
  pub shorter : length more < length ts

-- ---- formulas that a symbol ends

pub record EnclosedRead (symbol : Symbol) (ts rest : List Token) (inside : Around) (nodes : ℕ)
    (t : Tree) : Type 0 where
  pub behind : List Token
  pub at : ℕ
  pub read : FormulaRead ts behind inside nodes t
  pub closing : found (symbol_in symbol) behind ≡ Some (at, rest)
  pub shorter : length rest < length ts

-- the formula is read, and the symbol isn't there
pub record Unclosed (symbol : Symbol) (ts : List Token) (inside : Around) (f : FormulaFault) : Type
    0 where
  pub behind : List Token
  pub nodes : ℕ
  pub t : Tree
  pub read : FormulaRead ts behind inside nodes t
  pub missing : found (symbol_in symbol) behind ≡ None
  pub is : f ≡ here behind inside.end

abbrev pub EnclosedFault : Symbol → List Token → Around → FormulaFault → Type 0
EnclosedFault symbol ts inside f = FormulaFails ts inside f ⊎ Unclosed symbol ts inside f
