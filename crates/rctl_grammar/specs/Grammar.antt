-- The grammar of formulas, one alternative a constructor, each token with its place:
--
-- disjunction = conjunction *( "|" conjunction )
-- conjunction = unary *( "&" unary )
-- unary       = "!" unary / operator unary / "EX" name unary / "(" disjunction ")" / leaf
-- / ( "E" / "A" ) "[" disjunction "U" disjunction "]"
-- operator    = "EF" / "AG" / "EG" / "AF" / "AX"
-- leaf        = "true" / "false"
-- / name "." name compare side
-- / name "@" name
-- / "intransit" "(" name "," name ")" compare number
-- / "empty" "(" name "," name ")"
-- / name "." name "-" name "." name compare number
-- side        = number / name "." name
--
-- A formula is a disjunction. Any word serves as a name: no other alternative has a `.` or an `@`
-- behind a word, so that one before a `.` or an `@` is a name, and so is one behind "EX".
use Rattle.std.specs.Prelude.{◌≡◌, ℕ, ℤ, pos, negsuc, Bool, true, false, ◌+◌, max, ◌&&◌, List, []}
use Rattle.std.specs.Prelude.{◌∷◌, ◌++◌, Option, None, Some}
use Rattle.run_model.specs.Run.{Name}
use Rattle.run_model.specs.Formula as model
use Rattle.rctl_grammar.specs.declared.token.Kind.{Kind}
use Rattle.rctl_grammar.specs.declared.token.Kind.TheVariants as kind
use Rattle.rctl_grammar.specs.declared.token.Word.{Word}
use Rattle.rctl_grammar.specs.declared.token.Word.TheVariants as word
use Rattle.rctl_grammar.specs.declared.token.Token.{Token}
use Rattle.rctl_grammar.specs.declared.tree.Compare.{Compare}
use Rattle.rctl_grammar.specs.declared.tree.Operator.{Operator}
use Rattle.rctl_grammar.specs.declared.tree.Operator.TheVariants as operator
use Rattle.rctl_grammar.specs.declared.tree.Place.{Place}
use Rattle.rctl_grammar.specs.declared.tree.Side.{Side}
use Rattle.rctl_grammar.specs.declared.tree.Side.TheVariants as side
use Rattle.rctl_grammar.specs.declared.tree.Atom.{Atom}
use Rattle.rctl_grammar.specs.declared.tree.Atom.TheVariants as atom
use Rattle.rctl_grammar.specs.declared.tree.Tree.{Tree}
use Rattle.rctl_grammar.specs.declared.tree.Tree.TheVariants as tree

-- ---- derivations

-- a word: what it is where it is no name, its bytes, its place
pub record Spelled : Type 0 where
  pub word : Word
  pub name : Name
  pub at : ℕ

-- the two processes of a channel, between round brackets
pub record Channel : Type 0 where
  pub opened : ℕ
  pub sender : Spelled
  pub comma : ℕ
  pub receiver : Spelled
  pub closed : ℕ

-- process "." variable
pub record Variable : Type 0 where
  pub process : Spelled
  pub dot : ℕ
  pub variable : Spelled

pub data RightSide : Type 0 where
  number : (value : Option ℤ) (at : ℕ) → RightSide
  variable : (v : Variable) → RightSide

pub data Leaf : Type 0 where
  constant : (value : Bool) (name : Name) (at : ℕ) → Leaf
  comparison : (left : Variable) (compare : Compare) (at : ℕ) (right : RightSide) → Leaf
  watch : (process : Spelled) (at : ℕ) (name : Spelled) → Leaf
  transit : (name : Name) (at : ℕ) (channel : Channel) (compare : Compare) (compare_at : ℕ)
      (value : Option ℤ) (value_at : ℕ) → Leaf
  emptiness : (name : Name) (at : ℕ) (channel : Channel) → Leaf
  difference : (left : Variable) (minus : ℕ) (right : Variable) (compare : Compare)
      (compare_at : ℕ) (value : Option ℤ) (value_at : ℕ) → Leaf

-- "E" or "A", and its "["
pub record Path : Type 0 where
  pub all : Bool
  pub name : Name
  pub at : ℕ
  pub opened : ℕ

mutual
  pub data Disjunction : Type 0 where
    one_conjunction : (c : Conjunction) → Disjunction
    or : (d : Disjunction) (at : ℕ) (c : Conjunction) → Disjunction

  pub data Conjunction : Type 0 where
    one_unary : (u : Unary) → Conjunction
    and : (c : Conjunction) (at : ℕ) (u : Unary) → Conjunction

  pub data Unary : Type 0 where
    leaf : (l : Leaf) → Unary
    negation : (at : ℕ) (u : Unary) → Unary
    temporal : (operator : model.Operator) (name : Name) (at : ℕ) (u : Unary) → Unary
    -- "EX", with its name and its place, and the process
    stepping : (name : Name) (at : ℕ) (process : Spelled) (u : Unary) → Unary
    group : (opened : ℕ) (d : Disjunction) (closed : ℕ) → Unary
    -- with the name and the place of the "U", and the place of the "]"
    until : (path : Path) (left : Disjunction) (name : Name) (at : ℕ) (right : Disjunction)
        (closed : ℕ) → Unary

-- ---- the tokens of a derivation, and then the rest

abbrev pub tok : Kind → ℕ → Token
tok k at = record { kind = k; at = at }

abbrev pub spelled : Word → Name → ℕ → Token
spelled w name at = tok (kind.Word w name) at

-- the word as a token
abbrev pub named : Spelled → Token
named w = spelled w.word w.name w.at

abbrev pub word_of : model.Operator → Word
word_of model.Ef = word.Ef
word_of model.Ag = word.Ag
word_of model.Eg = word.Eg
word_of model.Af = word.Af
word_of model.Ax = word.Ax

abbrev pub truth_word : Bool → Word
truth_word true = word.True
truth_word false = word.False

-- all paths, or some path
abbrev pub path_word : Bool → Word
path_word true = word.A
path_word false = word.E

abbrev pub text_channel : Channel → List Token → List Token
text_channel c rest =
    tok kind.OpenRound c.opened ∷ named c.sender ∷ tok kind.Comma c.comma ∷ named c.receiver
    ∷ tok kind.CloseRound c.closed ∷ rest

abbrev pub text_variable : Variable → List Token → List Token
text_variable v rest = named v.process ∷ tok kind.Dot v.dot ∷ named v.variable ∷ rest

abbrev pub text_side : RightSide → List Token → List Token
text_side (number value at) rest = tok (kind.Number value) at ∷ rest
text_side (variable v) rest = text_variable v rest

abbrev pub text_leaf : Leaf → List Token → List Token
text_leaf (constant value name at) rest = spelled (truth_word value) name at ∷ rest
text_leaf (comparison left compare at right) rest =
    text_variable left (tok (kind.Compare compare) at ∷ text_side right rest)
text_leaf (watch process at name) rest = named process ∷ tok kind.At at ∷ named name ∷ rest
text_leaf (transit name at channel compare compare_at value value_at) rest =
    spelled word.InTransit name at ∷
    text_channel channel (tok (kind.Compare compare) compare_at ∷ tok (kind.Number value) value_at
    ∷ rest)
text_leaf (emptiness name at channel) rest = spelled word.Empty name at ∷ text_channel channel rest
text_leaf (difference left minus right compare compare_at value value_at) rest =
    text_variable left (tok kind.Minus minus ∷ text_variable right
    (tok (kind.Compare compare) compare_at ∷ tok (kind.Number value) value_at ∷ rest))

abbrev pub text_path : Path → List Token → List Token
text_path p rest = spelled (path_word p.all) p.name p.at ∷ tok kind.OpenSquare p.opened ∷ rest

abbrev mutual
  pub text_disjunction : Disjunction → List Token → List Token
  text_disjunction (one_conjunction c) rest = text_conjunction c rest
  text_disjunction (or d at c) rest = text_disjunction d (tok kind.Bar at ∷ text_conjunction c rest)

  pub text_conjunction : Conjunction → List Token → List Token
  text_conjunction (one_unary u) rest = text_unary u rest
  text_conjunction (and c at u) rest = text_conjunction c (tok kind.Amp at ∷ text_unary u rest)

  pub text_unary : Unary → List Token → List Token
  text_unary (leaf l) rest = text_leaf l rest
  text_unary (negation at u) rest = tok kind.Bang at ∷ text_unary u rest
  text_unary (temporal operator name at u) rest =
      spelled (word_of operator) name at ∷ text_unary u rest
  text_unary (stepping name at process u) rest =
      spelled word.Ex name at ∷ named process ∷ text_unary u rest
  text_unary (group opened d closed) rest =
      tok kind.OpenRound opened ∷ text_disjunction d (tok kind.CloseRound closed ∷ rest)
  text_unary (until path left name at right closed) rest =
      text_path path (text_disjunction left
      (spelled word.U name at ∷ text_disjunction right (tok kind.CloseSquare closed ∷ rest)))

-- the tokens are those of the derivation
abbrev pub IsFormula : List Token → Disjunction → Type 0
IsFormula tokens d = text_disjunction d [] ≡ tokens

-- some tokens behind these make a formula of them
abbrev pub Begins : List Token → Type 0
Begins tokens = (d : Disjunction) × (rest : List Token) × (text_disjunction d [] ≡ tokens ++ rest)

-- ---- the tree of a derivation

abbrev pub placed_name : Spelled → Place
placed_name w = record { name = w.name; at = w.at }

-- the number, where it is in the range of 64 bits
abbrev pub number_of : Option ℤ → ℤ
number_of (Some value) = value
number_of None = pos 0

-- the number, where it is in that range and not negative
abbrev pub count_of : Option ℤ → ℕ
count_of (Some (pos k)) = k
count_of (Some (negsuc k)) = 0
count_of None = 0

abbrev pub side_of : RightSide → Side
side_of (number value at) = side.Number (number_of value)
side_of (variable v) = side.Variable (placed_name v.process) (placed_name v.variable)

abbrev pub atom_of : Leaf → Atom
atom_of (constant value name at) = atom.Truth value
atom_of (comparison left compare at right) =
    atom.Local (placed_name left.process) (placed_name left.variable) compare (side_of right)
atom_of (watch process at name) = atom.Watch (placed_name process) (placed_name name)
atom_of (transit name at channel compare compare_at value value_at) =
    atom.InTransit (placed_name channel.sender) (placed_name channel.receiver) compare
    (count_of value)
atom_of (emptiness name at channel) =
    atom.Empty (placed_name channel.sender) (placed_name channel.receiver)
atom_of (difference left minus right compare compare_at value value_at) =
    atom.Difference (placed_name left.process) (placed_name left.variable)
    (placed_name right.process) (placed_name right.variable) compare (number_of value)

-- the place of a leaf's first token
abbrev pub first_token : Leaf → ℕ
first_token (constant value name at) = at
first_token (comparison left compare at right) = left.process.at
first_token (watch process at name) = process.at
first_token (transit name at channel compare compare_at value value_at) = at
first_token (emptiness name at channel) = at
first_token (difference left minus right compare compare_at value value_at) = left.process.at

-- the place of the first `&` of these, the one at `at` behind them
abbrev pub first_amp : Conjunction → ℕ → ℕ
first_amp (one_unary u) at = at
first_amp (and c earlier u) at = first_amp c earlier

abbrev pub first_bar : Disjunction → ℕ → ℕ
first_bar (one_conjunction c) at = at
first_bar (or d earlier c) at = first_bar d earlier

abbrev pub operator_of : model.Operator → Operator
operator_of model.Ef = operator.Ef
operator_of model.Ag = operator.Ag
operator_of model.Eg = operator.Eg
operator_of model.Af = operator.Af
operator_of model.Ax = operator.Ax

abbrev mutual
  pub tree_disjunction : Disjunction → Tree
  tree_disjunction (one_conjunction c) = tree_conjunction c
  tree_disjunction (or d at c) = tree.Or (disjuncts d ++ tree_conjunction c ∷ []) (first_bar d at)

  pub disjuncts : Disjunction → List Tree
  disjuncts (one_conjunction c) = tree_conjunction c ∷ []
  disjuncts (or d at c) = disjuncts d ++ tree_conjunction c ∷ []

  pub tree_conjunction : Conjunction → Tree
  tree_conjunction (one_unary u) = tree_unary u
  tree_conjunction (and c at u) = tree.And (conjuncts c ++ tree_unary u ∷ []) (first_amp c at)

  pub conjuncts : Conjunction → List Tree
  conjuncts (one_unary u) = tree_unary u ∷ []
  conjuncts (and c at u) = conjuncts c ++ tree_unary u ∷ []

  pub tree_unary : Unary → Tree
  tree_unary (leaf l) = tree.Leaf (atom_of l) (first_token l)
  tree_unary (negation at u) = tree.Not (tree_unary u) at
  tree_unary (temporal operator name at u) =
      tree.Temporal (operator_of operator) (tree_unary u) at
  tree_unary (stepping name at process u) = tree.Next (placed_name process) (tree_unary u) at
  tree_unary (group opened d closed) = tree_disjunction d
  tree_unary (until path left name at right closed) =
      tree.Until path.all (tree_disjunction left) (tree_disjunction right) path.at

-- ---- limits

abbrev mutual
  -- how many levels are open at once: each `!`, operator, group and until opens one for what it
  -- holds
  pub levels_disjunction : Disjunction → ℕ
  levels_disjunction (one_conjunction c) = levels_conjunction c
  levels_disjunction (or d at c) = max (levels_disjunction d) (levels_conjunction c)

  pub levels_conjunction : Conjunction → ℕ
  levels_conjunction (one_unary u) = levels_unary u
  levels_conjunction (and c at u) = max (levels_conjunction c) (levels_unary u)

  pub levels_unary : Unary → ℕ
  levels_unary (leaf l) = 0
  levels_unary (negation at u) = 1 + levels_unary u
  levels_unary (temporal operator name at u) = 1 + levels_unary u
  levels_unary (stepping name at process u) = 1 + levels_unary u
  levels_unary (group opened d closed) = 1 + levels_disjunction d
  levels_unary (until path left name at right closed) =
      1 + max (levels_disjunction left) (levels_disjunction right)

-- an And is one node, which stands at its first `&`
abbrev pub amp_nodes : Conjunction → ℕ
amp_nodes (one_unary u) = 1
amp_nodes (and c at u) = 0

abbrev pub bar_nodes : Disjunction → ℕ
bar_nodes (one_conjunction c) = 1
bar_nodes (or d at c) = 0

abbrev mutual
  -- the nodes of the tree
  pub nodes_disjunction : Disjunction → ℕ
  nodes_disjunction (one_conjunction c) = nodes_conjunction c
  nodes_disjunction (or d at c) = nodes_disjunction d + bar_nodes d + nodes_conjunction c

  pub nodes_conjunction : Conjunction → ℕ
  nodes_conjunction (one_unary u) = nodes_unary u
  nodes_conjunction (and c at u) = nodes_conjunction c + amp_nodes c + nodes_unary u

  pub nodes_unary : Unary → ℕ
  nodes_unary (leaf l) = 1
  nodes_unary (negation at u) = 1 + nodes_unary u
  nodes_unary (temporal operator name at u) = 1 + nodes_unary u
  nodes_unary (stepping name at process u) = 1 + nodes_unary u
  nodes_unary (group opened d closed) = nodes_disjunction d
  nodes_unary (until path left name at right closed) =
      1 + nodes_disjunction left + nodes_disjunction right

-- a number is in the range of 64 bits
abbrev pub in_range : Option ℤ → Bool
in_range (Some value) = true
in_range None = false

-- and not negative
abbrev pub counts : Option ℤ → Bool
counts (Some (pos k)) = true
counts (Some (negsuc k)) = false
counts None = false

abbrev pub side_in_range : RightSide → Bool
side_in_range (number value at) = in_range value
side_in_range (variable v) = true

-- the numbers of a leaf are numbers that it may have
abbrev pub leaf_in_range : Leaf → Bool
leaf_in_range (constant value name at) = true
leaf_in_range (comparison left compare at right) = side_in_range right
leaf_in_range (watch process at name) = true
leaf_in_range (transit name at channel compare compare_at value value_at) = counts value
leaf_in_range (emptiness name at channel) = true
leaf_in_range (difference left minus right compare compare_at value value_at) = in_range value

abbrev mutual
  -- the numbers of each leaf are such
  pub disjunction_in_range : Disjunction → Bool
  disjunction_in_range (one_conjunction c) = conjunction_in_range c
  disjunction_in_range (or d at c) = disjunction_in_range d && conjunction_in_range c

  pub conjunction_in_range : Conjunction → Bool
  conjunction_in_range (one_unary u) = unary_in_range u
  conjunction_in_range (and c at u) = conjunction_in_range c && unary_in_range u

  pub unary_in_range : Unary → Bool
  unary_in_range (leaf l) = leaf_in_range l
  unary_in_range (negation at u) = unary_in_range u
  unary_in_range (temporal operator name at u) = unary_in_range u
  unary_in_range (stepping name at process u) = unary_in_range u
  unary_in_range (group opened d closed) = disjunction_in_range d
  unary_in_range (until path left name at right closed) =
      disjunction_in_range left && disjunction_in_range right
