-- Inside: which process the leaves of an expression are over.
use Rattle.std.specs.Prelude.{◌-◌, Bool, true, false, not, ◌&&◌}
use Rattle.std.specs.Prelude.{Option, None, Some, bytes_eq}
use Rattle.run_model.specs.Run.{Name}
use Rattle.run_model.specs.Formula as model
use Rattle.rctl_grammar.specs.declared.tree.Side.{Side}
use Rattle.rctl_grammar.specs.declared.tree.Side.TheVariants as side
use Rattle.rctl_grammar.specs.declared.tree.Atom.{Atom}
use Rattle.rctl_grammar.specs.declared.tree.Atom.TheVariants as atom
use Rattle.rctl_class.specs.declared.named.NamedSide.TheVariants as named_side
use Rattle.rctl_class.specs.Nodes.{Node, Nodes, leaf, negation, conjunction, disjunction, under}
use Rattle.rctl_class.specs.Nodes.{stepping, until_of, none, more}
use Rattle.rctl_class.specs.Uses as used
use Rattle.rctl_class.specs.NamedParts as named

-- the name is that of the process
abbrev pub is_on : Option Name → Name → Bool
is_on None name = false
is_on (Some p) name = bytes_eq p name

-- the right side of a comparison names no other process
abbrev pub side_is_over : Option Name → Side → Bool
side_is_over p (side.Number value) = true
side_is_over p (side.Variable q v) = is_on p q.name

-- a leaf is local and names no other process
abbrev pub atom_is_over : Option Name → Atom → Bool
atom_is_over p (atom.Truth value) = true
atom_is_over p (atom.Local q variable compare right) = is_on p q.name && side_is_over p right
atom_is_over p (atom.Watch q watch) = is_on p q.name
atom_is_over p (atom.InTransit sender receiver compare k) = false
atom_is_over p (atom.Empty sender receiver) = false
atom_is_over p (atom.Difference left_process left right_process right compare k) = false

abbrev mutual
  -- only constants, comparisons, watches, not, and, or, and no other process than this one
  pub is_over : Option Name → Node → Bool
  is_over p (leaf a at) = atom_is_over p a
  is_over p (negation n at) = is_over p n
  is_over p (conjunction ns at) = all_over p ns
  is_over p (disjunction ns at) = all_over p ns
  is_over p (under operator n at) = false
  is_over p (stepping process n at) = false
  is_over p (until_of all left right at) = false

  -- so of each member
  pub all_over : Option Name → Nodes → Bool
  all_over p none = true
  all_over p (more n ns) = is_over p n && all_over p ns
