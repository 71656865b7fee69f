-- A tree with its places as plain data, on which the rest goes by cases, and the formula that it
-- spells.
use Rattle.std.specs.Prelude.{◌≡◌, ℕ, ◌+◌, ◌^◌, ◌≤◌, nat_lt, Bool, true, ◌&&◌, List, [], ◌∷◌}
use Rattle.std.specs.Prelude.{IsTrue, ℤ, pos, neg_ℤ, int_le, int_lt}
use Rattle.run_model.specs.Formula as model
use Rattle.run_model.specs.Class.{is_wide}
use Rattle.pota_base.specs.Limits.{most_nodes}
use Rattle.rctl_grammar.specs.declared.tree.Operator.{Operator}
use Rattle.rctl_grammar.specs.declared.tree.Place.{Place}
use Rattle.rctl_grammar.specs.declared.tree.Atom.{Atom}
use Rattle.rctl_grammar.specs.declared.tree.Atom.TheVariants as atom
use Rattle.rctl_grammar.specs.declared.tree.Tree.{Tree}
use Rattle.rctl_grammar.specs.declared.tree.Tree.TheOpen.{Tree-F}
use Rattle.rctl_grammar.specs.declared.tree.Tree.TheFolds.{fold-Tree}
use Rattle.rctl_grammar.specs.Shape.{plain_atom, model_atom, model_operator}

mutual
  -- a node of a formula, with its place
  pub data Node : Type 0 where
    leaf : (a : Atom) (at : ℕ) → Node
    negation : (n : Node) (at : ℕ) → Node
    conjunction : (ns : Nodes) (at : ℕ) → Node
    disjunction : (ns : Nodes) (at : ℕ) → Node
    under : (operator : Operator) (n : Node) (at : ℕ) → Node
    stepping : (process : Place) (n : Node) (at : ℕ) → Node
    until_of : (all : Bool) (left right : Node) (at : ℕ) → Node

  -- any number of them
  pub data Nodes : Type 0 where
    none : Nodes
    more : (n : Node) (ns : Nodes) → Nodes

-- a list of nodes, as the members of one
abbrev pub nodes_of : List Node → Nodes
nodes_of [] = none
nodes_of (n ∷ ns) = more n (nodes_of ns)

-- one layer of a tree, with its members already seen
abbrev pub node_step : Tree-F Node → Node
node_step (Tree-F.Leaf a at) = leaf a at
node_step (Tree-F.Not n at) = negation n at
node_step (Tree-F.And ns at) = conjunction (nodes_of ns) at
node_step (Tree-F.Or ns at) = disjunction (nodes_of ns) at
node_step (Tree-F.Temporal operator n at) = under operator n at
node_step (Tree-F.Next process n at) = stepping process n at
node_step (Tree-F.Until all left right at) = until_of all left right at

-- the tree's root, with all below it
unfoldable pub node_of : Tree → Node
node_of = fold-Tree Node node_step

abbrev mutual
  -- the formula without its places
  pub formula_of : Node → model.Formula
  formula_of (leaf a at) = model_atom (plain_atom a)
  formula_of (negation n at) = model.Not (formula_of n)
  formula_of (conjunction ns at) = model.And (formulas_of ns)
  formula_of (disjunction ns at) = model.Or (formulas_of ns)
  formula_of (under operator n at) = model.Temporal (model_operator operator) (formula_of n)
  formula_of (stepping process n at) = model.Next process.name (formula_of n)
  formula_of (until_of all left right at) = model.Until all (formula_of left) (formula_of right)

  -- those of members
  pub formulas_of : Nodes → model.Formulas
  formulas_of none = model.Nil
  formulas_of (more n ns) = model.Cons (formula_of n) (formulas_of ns)

-- ---- what is known of a formula that was read

-- a number is one of 64 bits with a sign
abbrev pub is_small : ℤ → Bool
is_small k = int_le (neg_ℤ (pos (2 ^ 63))) k && int_lt k (pos (2 ^ 63))

-- the number that messages are compared with is below 2^63, and that of a difference has 64 bits
abbrev pub atom_count_fits : Atom → Bool
atom_count_fits (atom.Truth value) = true
atom_count_fits (atom.Local process variable compare side) = true
atom_count_fits (atom.Watch process watch) = true
atom_count_fits (atom.InTransit sender receiver compare k) = nat_lt k (2 ^ 63)
atom_count_fits (atom.Empty sender receiver) = true
atom_count_fits (atom.Difference left_process left right_process right compare k) = is_small k

abbrev mutual
  -- so of each leaf
  pub counts_fit : Node → Bool
  counts_fit (leaf a at) = atom_count_fits a
  counts_fit (negation n at) = counts_fit n
  counts_fit (conjunction ns at) = all_counts_fit ns
  counts_fit (disjunction ns at) = all_counts_fit ns
  counts_fit (under operator n at) = counts_fit n
  counts_fit (stepping process n at) = counts_fit n
  counts_fit (until_of all left right at) = counts_fit left && counts_fit right

  -- so of each member
  pub all_counts_fit : Nodes → Bool
  all_counts_fit none = true
  all_counts_fit (more n ns) = counts_fit n && all_counts_fit ns

abbrev mutual
  -- how many nodes there are
  pub node_count : Node → ℕ
  node_count (leaf a at) = 1
  node_count (negation n at) = 1 + node_count n
  node_count (conjunction ns at) = 1 + nodes_count ns
  node_count (disjunction ns at) = 1 + nodes_count ns
  node_count (under operator n at) = 1 + node_count n
  node_count (stepping process n at) = 1 + node_count n
  node_count (until_of all left right at) = 1 + node_count left + node_count right

  -- those of members
  pub nodes_count : Nodes → ℕ
  nodes_count none = 0
  nodes_count (more n ns) = node_count n + nodes_count ns

-- the root of a formula that was read: its numbers fit, each `and` and `or` has two members, and
-- there are 64 nodes at most
pub record IsWithinLimits (n : Node) : Type 0 where
  pub counts : counts_fit n ≡ true
  pub wide : IsTrue (is_wide (formula_of n))
  pub few : node_count n ≤ most_nodes
